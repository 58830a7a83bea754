-- Empty parts, and one set with empty ones, with which parts begin to grow.
use Rattle.mat_union.proofs.Common.{◌≡◌, ℕ, zero, suc, ◌<◌, Bool, true, false, List, [], ◌∷◌, length, replicate, inl, inr, refl, sym, ap, ◌∙◌, arith, both_ways, cases_eq, cases_lt, false_from_ne_true, get_or-replicate, get_or_past, length-replicate, family_union, is_member, IsRising}
use Rattle.mat_union.proofs.Common.{family_union-from, family_union-gives, IsRising-family_union, same_members, same_truth, AreDisjoint-index, part_at, test_at, AreMatroids, AreParts}

-- each of so many empty sets
pub part_at-empty : (n i : ℕ) → part_at (replicate n []) i ≡ []
part_at-empty n i = elim (cases_lt i n) [
  | inl l ↦ get_or-replicate n i [] [] l
  | inr g ↦ get_or_past (replicate n []) i [] (let long = length-replicate {A = List ℕ} n [] in omega arith)
]

-- each but the first of a set and so many empty ones
pub part_at-later : (first : List ℕ) (n i : ℕ) → 0 < i → part_at (first ∷ replicate n []) i ≡ []
part_at-later first n zero l = absurd (omega arith)
part_at-later first n (suc i) l = part_at-empty n i

module _ (parts : List (List ℕ)) (empty : (i : ℕ) → part_at parts i ≡ []) where
  pub nothing : (v : ℕ) → is_member v (family_union parts) ≡ false
  nothing v = false_from_ne_true _ (λ h. let w = family_union-gives v parts h in both_ways _ (ap (is_member v) (empty w.0)) w.2)

module _ {n : ℕ} {tests : List (List ℕ → Bool)} (laws : AreMatroids n tests) (parts : List (List ℕ)) (long : length parts ≡ length tests) (empty : (i : ℕ) → part_at parts i ≡ []) where
  pub empty_are : AreParts tests parts
  empty_are = record {
    one_each = long;
    disjoint = AreDisjoint-index parts (λ i j x l h m. ap (is_member x) (empty j));
    passes = λ i l. ap (test_at tests i) (empty i) ∙ (laws.each i (omega arith)).empty;
  }

-- ---- a set and empty ones

module _ (sets : List (List ℕ)) (first : List ℕ) (at : part_at sets 0 ≡ first) (others : (i : ℕ) → 0 < i → part_at sets i ≡ []) where
  only_first : (i v : ℕ) → is_member v (part_at sets i) ≡ true → i ≡ 0
  only_first i v h = elim (cases_eq i 0) [ inl e ↦ e | inr d ↦ absurd (both_ways false refl (ap (is_member v) (sym (others i (omega arith))) ∙ h)) ]

  pub first_together : 0 < length sets → IsRising first → family_union sets ≡ first
  first_together some rises = same_members (family_union sets) first (IsRising-family_union sets) rises (λ v. same_truth (is_member v (family_union sets)) (is_member v first)
      (λ h. let w = family_union-gives v sets h in ap (is_member v) (sym at) ∙ ap (λ i. is_member v (part_at sets i)) (sym (only_first w.0 v w.2)) ∙ w.2)
      (λ h. family_union-from v sets 0 some (ap (is_member v) at ∙ h)))

  pub first_are : {n : ℕ} {tests : List (List ℕ → Bool)} → AreMatroids n tests → length sets ≡ length tests → test_at tests 0 first ≡ true → AreParts tests sets
  first_are {n} {tests} laws long passes = record {
    one_each = long;
    disjoint = AreDisjoint-index sets (λ i j x l h m. ap (is_member x) (others j (omega arith)));
    passes = λ i l. elim (cases_eq i 0) [
      | inl e ↦ ap (λ k. test_at tests k (part_at sets k)) e ∙ ap (test_at tests 0) at ∙ passes
      | inr d ↦ ap (test_at tests i) (others i (omega arith)) ∙ (laws.each i (omega arith)).empty
    ];
  }
