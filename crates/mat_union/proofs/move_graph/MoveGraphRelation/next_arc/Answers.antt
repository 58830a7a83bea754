use Rattle.mat_union.proofs.Common.{◌&&◌, ◌∙◌, ap, length, is_member, IsNextFrom-same, can_push, exchanges_of}
use Rattle.mat_union.proofs.move_graph.MoveGraphRelation.next_arc.Goals as goal

pub returns : goal.returns
returns c =
    let g = c.args.self.now in
    IsNextFrom-same (λ v. is_member v c.args.among.now && is_member v c.row.result.now) (λ v. is_member v c.args.among.now && can_push (length g.rows.now) (exchanges_of g.rows.now) c.args.u v) c.args.from c.next_common.result
    (λ v. ap (λ b. is_member v c.args.among.now && b) (ap (is_member v) c.row.ensures ∙ c.requires.sound.arcs.arcs c.args.u v c.requires.below))
    c.next_common.ensures
