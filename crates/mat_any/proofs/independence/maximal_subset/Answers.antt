use Rattle.mat_any.proofs.Common.{◌≡◌, [], ap, ◌∙◌, IfOk-weaker, AreDistinct-rising, grown_along, IsMaximal, run_maximal_of, is_independent, tree_laws, tree_of}
use Rattle.mat_any.proofs.independence.maximal_subset.Goals as goal

pub run-requires-clause-below : goal.run-requires-clause-below
run-requires-clause-below c = rw c.as_slice.ensures.items c.requires.below

pub run-requires-clause-distinct : goal.run-requires-clause-distinct
run-requires-clause-distinct c = rw c.as_slice.ensures.items (AreDistinct-rising c.args.within.now c.rises.ensures)

pub returns : goal.returns
returns c =
    let tree = tree_of c.args.matroid.now in
    let p = is_independent tree in
    IfOk-weaker c.run.result (λ s. s ≡ grown_along p [] c.as_slice.result.now) (λ s. IsMaximal p c.args.within.now s)
    (λ s told. run_maximal_of (tree_laws tree c.requires.sound) c.args.within.now s (told ∙ ap (grown_along p []) c.as_slice.ensures.items)) c.run.ensures
