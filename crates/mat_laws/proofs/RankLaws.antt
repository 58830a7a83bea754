-- The rank is the largest size of an independent subset; a largest one is maximal.
use Rattle.mat_laws.proofs.Common.{◌≡◌, ℕ, suc, zero, ◌≤◌, Bool, true, ◌&&◌, eqb, List, [], length, inl, inr, refl, sym, ap, ◌∙◌, arith, cases_Bool, cases_eq, eqb-true, eq-eqb, both_ways, false_from_ne_true, and_parts, and_from, IsRising, IsSubset, all_below, with_one, IsRising-all_below}
use Rattle.mat_laws.proofs.Common.{IsSubset-all_below, IsRising-nil, length-subset, with_one-IsSubset, length-with_one, some_subset_gives, some_subset_from, IsMatroid, IsMaximal, IsRank, largest_up_to, has_independent, rank}
use Rattle.mat_sets.proofs.Steps.{IsSubset-none}
use Rattle.mat_laws.proofs.Independent.{below, rising}
use Rattle.mat_laws.proofs.Maximal.{IsRank-maximal, IsRank-unique}

-- ---- the largest number that passes

largest_up_to-passes : (n : ℕ) (test : ℕ → Bool) → test 0 ≡ true → test (largest_up_to n test) ≡ true
unfolding largest_up_to
largest_up_to-passes zero test h = h
largest_up_to-passes (suc n) test h = elim (cases_Bool (test (suc n))) [ inl a ↦ rw (a, a) refl | inr a ↦ rw a (largest_up_to-passes n test h) ]

largest_up_to-most : (n k : ℕ) (test : ℕ → Bool) → k ≤ n → test k ≡ true → k ≤ largest_up_to n test
unfolding largest_up_to
largest_up_to-most zero k test l h = omega arith
largest_up_to-most (suc n) k test l h =
    elim (cases_Bool (test (suc n))) [
      | inl a ↦ rw a l
      | inr a ↦ rw a (elim (cases_eq k (suc n)) [
        | inl same ↦ absurd (both_ways _ a (ap test (sym same) ∙ h))
        | inr other ↦ largest_up_to-most n k test (omega arith) h
      ])
    ]

-- ---- the rank

-- a largest independent subset is maximal
pub IsMaximal-largest_subset : {n : ℕ} {p : List ℕ → Bool} → IsMatroid n p → (X : List ℕ) (r : ℕ) (rank_of_X : IsRank p X r)
    → IsMaximal p X rank_of_X.largest
IsMaximal-largest_subset laws X r h = record {
  passes = h.passes;
  inside = h.inside;
  full = λ x m o. false_from_ne_true _ (λ more.
      let size = length-with_one h.largest x (rising laws h.largest h.passes) o in
      let most = h.most (with_one h.largest x) more (with_one-IsSubset h.largest X x h.inside m) in
      let no : ⊥ = absurd (omega (arith, h.size)) in no);
}

module _ {n : ℕ} {p : List ℕ → Bool} (laws : IsMatroid n p) where
  -- the rank is the largest size of an independent subset
  pub rank_is : (X : List ℕ) → IsRising X → IsRank p X (rank p X)
  unfolding rank
  rank_is X r =
      let start : has_independent p X 0 ≡ true = some_subset_from X [] (λ I. p I && eqb (length I) 0) r IsRising-nil (IsSubset-none X) (and_from (p []) true laws.empty refl) in
      let w = some_subset_gives X (λ I. p I && eqb (length I) (largest_up_to (length X) (has_independent p X))) r (largest_up_to-passes (length X) (has_independent p X) start) in
      let parts = and_parts (p w.0) (eqb (length w.0) (largest_up_to (length X) (has_independent p X))) w.3 in
      record {
        largest = w.0;
        passes = parts.0;
        inside = w.2;
        size = eqb-true _ _ parts.1;
        most = λ I i s. (let q = rising laws I i in
            largest_up_to-most (length X) (length I) (has_independent p X) (length-subset I X q r s)
            (some_subset_from X I (λ J. p J && eqb (length J) (length I)) r q s (and_from (p I) (eqb (length I) (length I)) i (eq-eqb _ _ refl))));
      }

  -- each set has a maximal independent subset
  pub maximal_in : (X : List ℕ) → IsRising X → (B : List ℕ) × IsMaximal p X B
  maximal_in X r = let h = rank_is X r in (h.largest, IsMaximal-largest_subset laws X (rank p X) h)

  -- the rank is the size of each maximal independent subset
  pub rank-maximal : (X A : List ℕ) → IsRising X → IsMaximal p X A → rank p X ≡ length A
  rank-maximal X A q m = IsRank-unique p X (rank p X) (length A) (rank_is X q) (IsRank-maximal laws X A m)

-- a subset has at most the rank
pub rank-subset : {n : ℕ} {p : List ℕ → Bool} → IsMatroid n p → (X Y : List ℕ) → IsRising X → IsRising Y → IsSubset X Y → rank p X ≤ rank p Y
rank-subset {n} {p} laws X Y r q s =
    let few = rank_is laws X r in
    let many = rank_is laws Y q in
    omega (arith, few.size, many.most few.largest few.passes (record { inside = λ x m. s.inside x (few.inside.inside x m) }))

-- an independent set has at most as many members as the rank of all elements
pub length-independent : {n : ℕ} {p : List ℕ → Bool} → IsMatroid n p → (I : List ℕ) → p I ≡ true → length I ≤ rank p (all_below n)
length-independent {n} {p} laws I ok = (rank_is laws (all_below n) (IsRising-all_below n)).most I ok (IsSubset-all_below n I (below laws I ok))
