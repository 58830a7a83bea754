use Rattle.mat_arbor.proofs.Common.{◌∙◌, ℕ, ◌<◌, inl, inr, List, ap, length, subst, sym, arith, cases_lt, minus, IsSet-length, IsUnreachedSet}
use Rattle.mat_arbor.proofs.GrownTrees.{grown_set, grown_spans, unreached_rest}
use Rattle.mat_arbor.proofs.growing.unreached_from.Goals as goal

pub returns : goal.returns
returns c =
    let vertices = c.args.vertices in
    let arcs = c.args.arcs.now in
    let root = c.args.root in
    let reached = c.in_ok-reached.reached in
    let grown = c.in_ok-reached.ensures.grown in
    let set = grown_set grown vertices c.requires.graph.second c.requires.root in
    let few : length reached < vertices = elim (cases_lt (length reached) vertices) [
      | inl l ↦ l
      | inr full ↦ absurd (c.requires.none grown.tree (grown_spans grown vertices set (omega (arith, IsSet-length vertices reached set))))
    ] in
    let rest = unreached_rest vertices arcs root reached c.requires.graph.first grown set c.in_ok-reached.ensures.closed few in
    subst (IsUnreachedSet vertices arcs root)
    (sym (c.in_ok-rest.ensures.members ∙ ap (λ (all : List ℕ). minus all reached) c.in_ok-all_below.ensures.members)) rest
