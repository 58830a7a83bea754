use Rattle.mat_laws.proofs.Common.{refl}
use Rattle.mat_sets.proofs.Sums.{AllBelow-at}
use Rattle.mat_laws.proofs.Independent.{below}
use Rattle.mat_laws.proofs.GreedyRunSteps.{IsRunning-start, IsRunning-next, IsRunning-end}
use Rattle.mat_laws.proofs.matroid.Matroid.run.Goals as goal

pub loop-x-init : goal.loop-x-init
loop-x-init g c = IsRunning-start _ _ _ c.lawful.ensures.empty c.new-set.ensures.members

pub add_if_independent-requires-clause-set : goal.add_if_independent-requires-clause-set
add_if_independent-requires-clause-set g c = below c.lawful.ensures c.loop-x.set c.loop-x.invariant.passes

pub add_if_independent-requires-clause-below : goal.add_if_independent-requires-clause-below
add_if_independent-requires-clause-below g c = AllBelow-at _ _ c.loop-x.x-index c.requires.below c.loop-x-test.true

pub loop-x-preserved : goal.loop-x-preserved
loop-x-preserved g c =
    let told = c.in_ok-add_if_independent.ensures in
    IsRunning-next _ _ _ c.loop-x.x-index _ c.loop-x-test.true refl c.loop-x.invariant _ _ told.added told.set

pub returns : goal.returns
returns g c = IsRunning-end _ _ _ c.loop-x.x-index c.loop-x-test.false c.loop-x.invariant
