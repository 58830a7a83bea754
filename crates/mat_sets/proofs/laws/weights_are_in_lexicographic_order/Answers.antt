use Rattle.mat_sets.proofs.WeightOrder.{at_most_not, not_at_most, below_gives, below_from, same_gives, same_from, lexicographic_gives, lexicographic_from}
use Rattle.mat_sets.proofs.laws.weights_are_in_lexicographic_order.Goals as goal

pub returns : goal.returns
returns c = record {
  below = λ a b. (lexicographic_gives a b, lexicographic_from a b);
  at_most = λ a b. (at_most_not a b, not_at_most a b);
  test = λ a b. (below_gives a b, below_from a b);
  same = λ a b. (same_gives a b, same_from a b);
}
