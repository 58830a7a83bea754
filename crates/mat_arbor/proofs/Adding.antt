-- Sums at vertices, one member and one listed set after the other, and how large they are.
use Rattle.mat_arbor.proofs.Common.{◌≡◌, ℕ, ◌+◌, ◌*◌, ◌<◌, ◌||◌, Bool, true, false, List, [], ◌∷◌, ◌++◌, length, get_or, set, take, inl, inr, refl, sym, ap, ◌∙◌, arith, ℤ, pos, ◌+ℤ◌, cases_eq, eq-eqb, ne_eqb, or_right, ints, get_or-set_other, get_or-set_same, length-set, take_more, is_member}
use Rattle.mat_arbor.proofs.Common.{IsRising, IsWithin, IsAdded, cost_at, weight_where, CutWeight, weight_around, IsCutWithin}
use Rattle.std.specs.List.{AllByRecursion}
use Rattle.mat_sets.proofs.Steps.{is_member-take_more, is_member-take_next}

-- ---- one weight at each member

module _ (count : ℕ) (items : List ℕ) (i : ℕ) (w : ℤ) (before after : List ℤ) (rising : IsRising items) (l : i < length items)
    (added : IsAdded count (λ v. is_member v (take i items)) w before after) where
  -- nothing is added yet at the next member
  pub added_next : get_or items i 0 < count → cost_at after (get_or items i 0) ≡ cost_at before (get_or items i 0)
  added_next below =
      let x = get_or items i 0 in
      let none : weight_where (is_member x (take i items)) w ≡ pos 0 = ap (λ b. weight_where b w) (is_member-take_next items i rising l) in
      omega (arith, ints, added.each x below)

  pub added_more : (z : ℤ) → get_or items i 0 < length after → get_or items i 0 < count → z ≡ cost_at after (get_or items i 0) +ℤ w
      → IsAdded count (λ v. is_member v (take (i + 1) items)) w before (set after (get_or items i 0) z)
  added_more z inside below e = record {
    long = length-set after x z ∙ added.long;
    each = λ a la. elim (cases_eq a x) [
      | inl same ↦ (let full : weight_where (is_member a (take (i + 1) items)) w ≡ w = ap (λ b. weight_where b w) (here a same) in
          let new : cost_at (set after x z) a ≡ z = ap (cost_at (set after x z)) same ∙ get_or-set_same after x z (pos 0) inside in
          let was : cost_at before a ≡ cost_at before x = ap (cost_at before) same in
          omega (arith, ints, added_next below))
      | inr other ↦ get_or-set_other after x a z (pos 0) other ∙ added.each a la
          ∙ ap (λ b. cost_at before a +ℤ weight_where b w) (sym (there a other))
    ];
  }
    where
      x : ℕ
      x = get_or items i 0

      here : (a : ℕ) → a ≡ x → is_member a (take (i + 1) items) ≡ true
      here a same = is_member-take_more items i a l ∙ or_right (is_member a (take i items)) _ (eq-eqb a x same)

      there : (a : ℕ) → (a ≡ x → ⊥) → is_member a (take (i + 1) items) ≡ is_member a (take i items)
      there a other = is_member-take_more items i a l ∙ none (is_member a (take i items)) _ (ne_eqb a x other)
        where
          none : (b c : Bool) → c ≡ false → (b || c) ≡ b
          none true c e = refl
          none false c e = e

-- ---- one set more

around_push : (cuts : List CutWeight) (c : CutWeight) (v : ℕ)
    → weight_around (cuts ++ c ∷ []) v ≡ weight_around cuts v +ℤ weight_where (is_member v c.set) c.weight
around_push [] c v = omega (arith, ints)
around_push (d ∷ cuts) c v = omega (arith, ints, around_push cuts c v)

pub around_more : (cuts : List CutWeight) (i : ℕ) (d : CutWeight) (v : ℕ) → i < length cuts
    → weight_around (take (i + 1) cuts) v ≡ weight_around (take i cuts) v +ℤ weight_where (is_member v (get_or cuts i d).set) (get_or cuts i d).weight
around_more cuts i d v l = ap (λ k. weight_around k v) (take_more cuts i d l) ∙ around_push (take i cuts) (get_or cuts i d) v

-- ---- how large the sums are

module _ (vertices bound : ℕ) where
  where_within : (b : Bool) (w : ℤ) → IsWithin bound w → IsWithin bound (weight_where b w)
  where_within true w l = l
  where_within false w l = (omega (arith, ints), omega (arith, ints))

  pub around_within : (cuts : List CutWeight) (v : ℕ) → AllByRecursion (IsCutWithin vertices bound) cuts
      → IsWithin (bound * length cuts) (weight_around cuts v)
  around_within [] v all = (omega (arith, ints), omega (arith, ints))
  around_within (c ∷ cuts) v all =
      let here = where_within (is_member v c.set) c.weight all.0.small in
      let rest = around_within cuts v all.1 in
      let low = here.0 in let high = here.1 in let rest_low = rest.0 in let rest_high = rest.1 in
      (omega (arith, ints), omega (arith, ints))
