-- What rules allow of some sets bounds their ranks, the size of what all of them allow, and how many elements disjoint sets hold.
use Rattle.mat_facts.proofs.Common.{◌≡◌, ◌<◌, ◌≤◌, ◌+◌, ℕ, zero, suc, Bool, true, List, [], ◌∷◌, length, sym, ap, arith, heavy, family_union, intersection, is_member, minus, IsRising, IsSet, IsSubset, Weight, intersection-subset, below_member, IsSet-those_below, IsMatroid, rank, rising, rank_is}
use Rattle.mat_facts.proofs.Common.{IsLevelCut, test_at, AreMatroids, AreParts, ranks_sum, weighs, weight_at, AllowsAtMost}
use Rattle.mat_union.specs.PartListLaws.{cut_bounds}
use Rattle.mat_facts.proofs.DividedSets.{count_more, count_none, count_of_first, counts_grow, divided}

-- the rank is no more than what the rule allows
pub rank_at_most : {n : ℕ} {p : List ℕ → Bool} → IsMatroid n p → (S : List ℕ) (c : ℕ) → AllowsAtMost n p S c → rank p S ≤ c
rank_at_most {n} {p} laws S c h =
    let r = rank_is laws S h.set.rising in
    let most = h.most r.largest r.passes in
    let same = ap length (intersection-subset r.largest S (rising laws r.largest r.passes) r.inside) in
    omega (arith, r.size)

-- the first of so many numbers, and then the others
pub count_front : (f : ℕ → ℕ) (m : ℕ) → count_of_first f (suc m) ≡ f 0 + count_of_first (λ i. f (suc i)) m
count_front f zero =
    let one = count_more f 0 in
    let none = count_none f in
    let later = count_none (λ i. f (suc i)) in
    omega arith
count_front f (suc m) =
    let before = count_front f m in
    let all = count_more f (suc m) in
    let later = count_more (λ i. f (suc i)) m in
    omega arith

ranks_counted : (tests : List (List ℕ → Bool)) (A : List ℕ) → ranks_sum tests A ≡ count_of_first (λ i. rank (test_at tests i) A) (length tests)
ranks_counted [] A = sym (count_none (λ i. rank (test_at [] i) A))
ranks_counted (test ∷ tests) A =
    let before = ranks_counted tests A in
    let front = count_front (λ i. rank (test_at (test ∷ tests) i) A) (length tests) in
    omega arith

module _ (n : ℕ) (tests : List (List ℕ → Bool)) where
  -- what all rules allow has no more members than they allow of some sets in which all elements are
  pub divided_few : (sides : ℕ → List ℕ) (most : ℕ → ℕ) (X : List ℕ) → IsSet n X → ((i : ℕ) → i < length tests → test_at tests i X ≡ true)
      → ((i : ℕ) → i < length tests → AllowsAtMost n (test_at tests i) (sides i) (most i))
      → ((e : ℕ) → e < n → (i : ℕ) × (i < length tests) × (is_member e (sides i) ≡ true)) → length X ≤ count_of_first most (length tests)
  divided_few sides most X set all allow each =
      let parts = divided sides (length tests) X (λ e h. each e (below_member set h)) in
      let grown = counts_grow (λ i. length (intersection X (sides i))) most (length tests) (λ i l. (allow i l).most X (all i l)) in
      omega arith

  -- what the rules allow of a cut is a cut of its level, where as many elements are in parts
  pub level_cut : (w : List Weight) (parts : List (List ℕ)) (t : Weight) (cut : List ℕ) (most : ℕ → ℕ) (held : ℕ)
      → AreMatroids n tests → AreParts tests parts → 0 < length tests → IsSubset cut (heavy n w t)
      → ((i : ℕ) → i < length tests → AllowsAtMost n (test_at tests i) cut (most i))
      → length (intersection (family_union parts) (heavy n w t)) ≡ held
      → length (minus (heavy n w t) cut) + count_of_first most (length tests) ≤ held → IsLevelCut n tests w parts t cut
  level_cut w parts t cut most held laws are some inside allow is_held enough =
      let rises : IsRising cut = (allow 0 some).set.rising in
      let ranks = ranks_counted tests cut in
      let few = counts_grow (λ i. rank (test_at tests i) cut) most (length tests) (λ i l. rank_at_most (laws.each i l) cut (most i) (allow i l)) in
      let bound = cut_bounds tests parts (heavy n w t) cut laws are (IsSet-those_below n (weighs (weight_at w) t)).rising rises inside in
      record { rises = rises; inside = inside; count = omega arith }
