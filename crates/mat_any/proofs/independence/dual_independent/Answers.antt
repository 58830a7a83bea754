use Rattle.mat_any.proofs.Common.{AreDistinct-rising, dual_by_run, tree_laws, tree_of}
use Rattle.mat_any.proofs.independence.dual_independent.Goals as goal

pub dual_run-requires-clause-below : goal.dual_run-requires-clause-below
dual_run-requires-clause-below c = rw c.as_slice.ensures.items c.requires.below

pub dual_run-requires-clause-distinct : goal.dual_run-requires-clause-distinct
dual_run-requires-clause-distinct c = rw c.as_slice.ensures.items (AreDistinct-rising c.args.set.now c.rises.ensures)

pub returns : goal.returns
returns c =
    let tree = tree_of c.args.inner.now in
    rw (c.len.ensures.count, c.len-2.ensures.count)
    (dual_by_run (tree_laws tree c.requires.sound) c.args.set.now c.as_slice.result.now c.in_ok-taken.taken c.rises.ensures
    c.as_slice.ensures.items c.in_ok-taken.ensures)
