use Rattle.mat_witness.proofs.Common.{[], ap, ◌∙◌, AreDistinct-rising, rank-maximal, is_independent, tree_laws, tree_of}
use Rattle.mat_laws.specs.GreedyRuns.{grown_along}
use Rattle.mat_laws.proofs.GreedyRunSets.{run_maximal_of}
use Rattle.mat_witness.proofs.make.rank_bound.Goals as goal

pub run-requires-clause-distinct : goal.run-requires-clause-distinct
run-requires-clause-distinct c = rw c.as_slice.ensures.items (AreDistinct-rising c.args.set.now c.requires.set.rising)

pub bound_for-requires-clause-maximal : goal.bound_for-requires-clause-maximal
bound_for-requires-clause-maximal c =
    let tree = tree_of c.args.matroid.now in
    let told = c.in_ok-base.ensures ∙ ap (grown_along (is_independent tree) []) c.as_slice.ensures.items in
    run_maximal_of (tree_laws tree c.requires.witnessed.sound) c.args.set.now _ told

pub returns-clause-number : goal.returns-clause-number
returns-clause-number c =
    let tree = tree_of c.args.matroid.now in
    let laws = tree_laws tree c.requires.witnessed.sound in
    let told = c.in_ok-base.ensures ∙ ap (grown_along (is_independent tree) []) c.as_slice.ensures.items in
    let size = rank-maximal laws c.args.set.now c.in_ok-base.base c.requires.set.rising (run_maximal_of laws c.args.set.now _ told) in
    rw size c.bound_for.ensures.number
