-- Two best unions of the same matroids and weights hold as many elements, and weigh the same.
use Rattle.mat_summary.proofs.Common.{◌≡◌, ℕ, Bool, List, length, pos, sym, arith, ints, weight, Weight, at_most_both, all_members}
use Rattle.mat_sets.specs.Families.{AllRising, AreDisjoint, family_union}
use Rattle.mat_sets.proofs.Families.{family_sum-ones, family_sum-family_union}
use Rattle.mat_sets.proofs.Sums.{sum_of-ones}
use Rattle.mat_union.specs.RightUnions.{IsBestUnion}
use Rattle.mat_union.specs.Unions.{AreParts}
use Rattle.mat_summary.proofs.SummaryTotals.{all_members-sum}

-- disjoint sets have as many members as their union
all_members-disjoint : (parts : List (List ℕ)) → AllRising parts → AreDisjoint parts → all_members parts ≡ length (family_union parts)
all_members-disjoint parts rising disjoint =
    let one = all_members-sum parts in
    let two = family_sum-ones parts in
    let three = family_sum-family_union (λ k. pos 1) parts rising disjoint in
    let four = sum_of-ones (family_union parts) in
    omega (arith, ints, one, two, three, four)

module _ (tests : List (List ℕ → Bool)) (w : List Weight) (parts others : List (List ℕ))
    (are : AreParts tests parts) (best : IsBestUnion tests w parts)
    (other_are : AreParts tests others) (other_best : IsBestUnion tests w others) where
  as_many : length (family_union parts) ≡ length (family_union others)
  as_many = omega (arith, other_best.most parts are, best.most others other_are)

  pub same_members : AllRising parts → AllRising others → all_members parts ≡ all_members others
  same_members rising other_rising =
      omega (arith, as_many, all_members-disjoint parts rising are.disjoint, all_members-disjoint others other_rising other_are.disjoint)

  pub same_union_weight : weight w (family_union parts) ≡ weight w (family_union others)
  same_union_weight = at_most_both _ _ (other_best.heaviest parts are as_many) (best.heaviest others other_are (sym as_many))
