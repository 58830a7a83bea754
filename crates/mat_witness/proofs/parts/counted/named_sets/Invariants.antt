use Rattle.mat_witness.proofs.Common.{None, get_or, take, AreNamed}
use Rattle.mat_witness.proofs.parts.counted.named_sets.Given as goal

abbrev pub invariant-loop-x : goal.invariant-loop-x
invariant-loop-x l = AreNamed (λ x. get_or l.named x None) (take l.x-index l.set) l.chosen
