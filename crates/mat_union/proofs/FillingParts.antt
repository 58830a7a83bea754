-- Parts that are filled up: the elements that are in none are new, and when all of them came, each element is in a part or spanned; then the
-- spanned elements are a cut.
use Rattle.mat_union.proofs.Common.{◌≡◌, ◌∙◌, ℕ, Bool, true, false, not, ◌||◌, ◌&&◌, ltb, List, [], length, refl, sym, ap, inl, inr, arith, and_from, and_parts, both_ways, cases_Bool, false_from_ne_true, false≢true, lt-ltb, ltb-true, not-true, not_from_false, or_left, or_right, family_union}
use Rattle.mat_union.proofs.Common.{those_below, all_below, is_member, IsSubset, length-minus-intersection, apart_from, IsRising-family_union, below_member, is_member-all_below, IsRising-all_below, IsSet-nil, IsRising-nil, is_member-those_below, and_all, rank-maximal, IsFilled, AreDone, AreFresh}
use Rattle.mat_union.proofs.Common.{AreGrowing, parts_set, ranks_reached, part_at, AreMatroids, AreParts}
use Rattle.mat_union.proofs.SpannedElements.{same_outside}

-- with no element marked as spanned
module _ {n : ℕ} {tests : List (List ℕ → Bool)} (laws : AreMatroids n tests) (parts : List (List ℕ)) (are : AreParts tests parts) where
  pub start_growing : (spanned unspanned : List ℕ) → spanned ≡ [] → unspanned ≡ all_below n → AreGrowing n tests parts spanned unspanned
  start_growing spanned unspanned e f = rw (e, f) (record {
    are = are;
    set = IsSet-nil n;
    spans = λ i l.
        (let law = laws.each i (let o = are.one_each in omega arith) in
        rank-maximal law [] [] IsRising-nil (record { passes = law.empty; inside = record { inside = λ x h. h }; full = λ x h o. absurd (false≢true h) })
        ∙ sym (ap length (apart_from (part_at parts i) [] (λ x h. refl))));
    others = λ v. is_member-all_below v n ∙ sym (and_all (ltb v n));
  })

pub start_done : (n : ℕ) (parts : List (List ℕ)) (spanned : List ℕ) → spanned ≡ [] → AreDone n (λ v. is_member v (family_union parts)) parts spanned
start_done n parts spanned e = rw e (record {
  placed = λ v h. h;
  refused = λ v h. absurd (false≢true h);
  all = λ v l h. or_left (is_member v (family_union parts)) (is_member v []) h;
})

module _ (n : ℕ) (old : List (List ℕ)) (elements : List ℕ) (left_out : elements ≡ those_below n (λ x. not (is_member x (family_union old)))) where
  comes : (v : ℕ) → is_member v elements ≡ (ltb v n && not (is_member v (family_union old)))
  comes v = ap (is_member v) left_out ∙ is_member-those_below v n (λ x. not (is_member x (family_union old)))

  pub left_out_fresh : (parts : List (List ℕ)) (spanned : List ℕ) → AreDone n (λ v. is_member v (family_union old)) parts spanned → AreFresh n elements parts spanned
  left_out_fresh parts spanned d = record {
    below = λ x h. ltb-true x n (of x h).0;
    new = λ x h. false_from_ne_true _ (λ k. both_ways _ (not-true _ (of x h).1) (d.placed x k));
    unspanned = λ x h. false_from_ne_true _ (λ k. both_ways _ (not-true _ (of x h).1) (d.refused x k));
  }
    where
      of : (x : ℕ) → is_member x elements ≡ true → (ltb x n ≡ true) × (not (is_member x (family_union old)) ≡ true)
      of x h = and_parts (ltb x n) (not (is_member x (family_union old))) (sym (comes x) ∙ h)

  pub filled : {tests : List (List ℕ → Bool)} {new : List (List ℕ)} {spanned unspanned : List ℕ} → AreMatroids n tests → AreGrowing n tests new spanned unspanned
      → AreDone n (λ v. is_member v (family_union old) || is_member v elements) new spanned → IsSubset (family_union old) (family_union new) → IsFilled n tests old new spanned
  filled {tests} {new} {spanned} laws g d holds =
      let S = family_union new in
      let rs = IsRising-family_union new in
      let split = length-minus-intersection S spanned rs in
      let ranks = ranks_reached tests new spanned laws g.are g.set.rising g.spans in
      let size = ap length (same_outside (all_below n) S spanned (IsRising-all_below n) rs
      (record { inside = λ v h. is_member-all_below v n ∙ lt-ltb v n (below_member (parts_set laws g.are) h) })
      (λ v h. let l = sym (is_member-all_below v n) ∙ h in d.all v (ltb-true v n l) (came v l))) in
      record { are = g.are; holds = holds; set = g.set; count = omega arith }
    where
      came : (v : ℕ) → ltb v n ≡ true → (is_member v (family_union old) || is_member v elements) ≡ true
      came v l = elim (cases_Bool (is_member v (family_union old))) [
        | inl a ↦ or_left (is_member v (family_union old)) (is_member v elements) a
        | inr o ↦ or_right (is_member v (family_union old)) (is_member v elements) (comes v ∙ and_from (ltb v n) (not (is_member v (family_union old))) l (not_from_false _ o))
      ]
