use Rattle.mat_sets.specs.Sets.{AllBelow}
use Rattle.mat_calls.proofs.routes.set_of_bits.Given as goal

abbrev pub invariant-loop-x : goal.invariant-loop-x
invariant-loop-x l = AllBelow l.n l.set
