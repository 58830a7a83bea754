use Rattle.mat_flow.proofs.Common.{◌∙◌, ap, ends_of, is_member}
use Rattle.mat_flow.proofs.ArcFlows.{row_is_arcs_from}
use Rattle.mat_flow.proofs.arc_residual.ArcResidualRelation.is_start.Goals as goal

pub returns : goal.returns
returns c =
    let r = c.args.self.now in
    let sound = c.requires.sound in
    c.contains.ensures ∙ ap (is_member c.args.a) c.row.ensures
    ∙ row_is_arcs_from r.graph.now.vertices (ends_of r.graph.now.arcs) r.live.now r.leaving.now r.from c.args.a sound.1 sound.2
