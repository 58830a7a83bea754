use Rattle.mat_count.proofs.Common.{length}
use Rattle.mat_count.proofs.CountedRuns.{IsCounting}
use Rattle.mat_count.proofs.partition.run_by_classes.Given as goal

abbrev pub invariant-loop-x : goal.invariant-loop-x
invariant-loop-x l = IsCounting (length l.class_of) l.classes l.caps l.order l.x-index l.set l.numbers.items
