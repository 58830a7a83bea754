-- The numbers below a bound that pass a test, found one after the other.
use Rattle.mat_sets.proofs.Rounds.{those_below-none, those_below-put, those_below-skip}

pub ruleset numbers_below = (those_below-none, those_below-put, those_below-skip)
