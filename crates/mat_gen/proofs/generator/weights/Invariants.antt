use Rattle.mat_gen.proofs.Common.{◌≡◌, weights_from}
use Rattle.mat_gen.proofs.generator.weights.Given as goal

abbrev pub invariant-loop-i : goal.invariant-loop-i
invariant-loop-i l = l.weights.items ≡ weights_from l.seed l.i l.each l.place l.many l.zero
