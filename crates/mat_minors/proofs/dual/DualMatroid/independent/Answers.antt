use Rattle.mat_minors.proofs.Common.{AreDistinct-rising}
use Rattle.mat_minors.proofs.GreedyReversed.{dual_by_run}
use Rattle.mat_minors.proofs.dual.DualMatroid.independent.Goals as goal

pub run-requires-clause-distinct : goal.run-requires-clause-distinct
run-requires-clause-distinct g c = rw c.as_slice.ensures.items (AreDistinct-rising c.args.set.now c.as_slice.ensures.rises)

pub returns : goal.returns
returns g c =
    rw (c.len.ensures.count, c.len-2.ensures.count)
    (dual_by_run (g.met.M.Matroid.laws c.args.self.now.inner c.requires.sound) c.args.set.now c.as_slice.result.now c.in_ok-taken.taken
    c.as_slice.ensures.rises c.as_slice.ensures.items c.in_ok-taken.ensures)
