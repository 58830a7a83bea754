use Rattle.mat_flow.proofs.Common.{◌∙◌, length, ap, eqb, ends_of}
use Rattle.mat_flow.proofs.ArcFlows.{is_goal_there}
use Rattle.mat_flow.proofs.arc_residual.ArcResidualRelation.is_goal.Goals as goal

pub returns-in-Some : goal.returns-in-Some
returns-in-Some c =
    let r = c.args.self.now in
    let arcs = r.graph.now.arcs in
    let u = c.in-Some.u in
    ap (λ p. eqb p.1 r.to) (c.get.ensures ∙ ap (λ l. ends_of l u) c.arcs.ensures.arcs)
    ∙ is_goal_there (ends_of arcs) (length arcs) r.to r.before.now c.args.a u c.in-Some.is (c.requires.sound.4 c.args.a u c.in-Some.is)
