use Rattle.mat_gen.proofs.Common.{◌≡◌, pairs_drawn}
use Rattle.mat_gen.proofs.generator.pairs.Given as goal

abbrev pub invariant-loop-i : goal.invariant-loop-i
invariant-loop-i l = l.pairs.items ≡ pairs_drawn l.seed l.i l.each l.place l.below
