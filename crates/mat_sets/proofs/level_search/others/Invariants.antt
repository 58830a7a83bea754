use Rattle.mat_sets.proofs.Common.{◌≡◌, not, those_below, is_member}
use Rattle.mat_sets.proofs.level_search.others.Given as goal

abbrev pub invariant-loop-v : goal.invariant-loop-v
invariant-loop-v l = l.outside ≡ those_below l.v (λ v. not (is_member v l.set))
