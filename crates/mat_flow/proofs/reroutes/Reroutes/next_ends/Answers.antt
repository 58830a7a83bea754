use Rattle.mat_flow.proofs.Common.{subst, AreLeading, residual_arc, residual_goal}
use Rattle.std.proofs.lemmas.Result.{IfOk-weaker}
use Rattle.mat_flow.proofs.NextEnds.{next_ends_are}
use Rattle.mat_flow.proofs.Rerouting.{searchable}
use Rattle.mat_flow.proofs.reroutes.Reroutes.next_ends.Goals as goal

pub leading_vertices-requires-clause-sound : goal.leading_vertices-requires-clause-sound
leading_vertices-requires-clause-sound c =
    let k = c.requires in
    searchable k.0 k.1 c.args.sources.now k.2 c.args.self.now k.4 c.args.back.now k.3 c.deref.result.now c.deref.ensures.value

pub returns : goal.returns
returns c =
    IfOk-weaker c.leading_vertices.result _ _ (λ found h vertices arcs ends is k.
    next_ends_are vertices arcs c.args.sources.now ends c.args.self.now k found c.deref.result.now c.deref.ensures.value c.args.back.now is
    (subst (λ n. AreLeading n (residual_arc c.args.back.now.arcs c.deref.result.now) (residual_goal c.args.sources.now c.deref.result.now) found)
    c.vertices.ensures.count h)) c.leading_vertices.ensures
