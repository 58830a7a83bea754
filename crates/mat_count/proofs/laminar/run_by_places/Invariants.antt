use Rattle.mat_count.proofs.CountedRuns.{IsCounting}
use Rattle.mat_count.proofs.laminar.run_by_places.Given as goal

abbrev pub invariant-loop-x : goal.invariant-loop-x
invariant-loop-x l = IsCounting l.count l.sets l.caps l.order l.x-index l.set l.numbers.items
