use Rattle.mat_sets.proofs.Common.{arith, ints, Weight, ◌⊕◌, ◌≼◌}
use Rattle.mat_sets.proofs.WeightOrder.{at_most_or_below, at_most_both, at_most_trans}
use Rattle.mat_sets.proofs.laws.weights_are_an_ordered_group.Goals as goal

pub returns : goal.returns
returns c = record { total = at_most_or_below; both = at_most_both; chain = at_most_trans; sums = sums }
  where
    sums : (a b c : Weight) → a ≼ b → (a ⊕ c) ≼ (b ⊕ c)
    sums a b c h = omega (arith, ints)
