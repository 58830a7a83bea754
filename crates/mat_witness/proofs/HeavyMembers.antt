-- Of a heaviest set of its size the members of at least a given weight are maximal among the elements of at least that weight, where not all
-- members weigh as much: an element that weighs as much can take the place only of members that weigh no less, so it cannot be added to them.
use Rattle.mat_witness.proofs.Common.{◌≡◌, ℕ, ◌<◌, Bool, true, false, not, ◌&&◌, ltb, List, length, inl, inr, sym, ap, ◌∙◌, arith, cases_Bool, and_parts, and_from, not-true, lt-ltb, Weight, is_member, IsRising, IsSubset, intersection, with_one, ◌≼◌, is_below, weight_at, AllBelow-member, set_members}
use Rattle.mat_witness.proofs.Common.{IsRising-intersection, is_member-those_below, intersection-left, intersection-right, length-subset, at_most_trans, not_below_from, not_below_gives, heavy, IsHeaviest, IsMatroid, IsMaximal}
use Rattle.mat_laws.proofs.Independent.{below, full_in_larger, rising}
use Rattle.mat_laws.proofs.LocallyHeaviest.{addable_is_lightest, exchange_gains_nothing}
use Rattle.mat_laws.proofs.Symmetric.{replaceable_by, is_member-replaceable, IsRising-replaceable, replaceable_full}

in_heavy : (n : ℕ) (half : List Weight) (t : Weight) (x : ℕ)
    → is_member x (heavy n half t) ≡ (ltb x n && not (is_below (weight_at half x) t))
in_heavy n half t x = is_member-those_below x n (λ y. not (is_below (weight_at half y) t))

-- what weighs at least as much as a member does too
heavier_in_heavy : (n : ℕ) (half : List Weight) (t : Weight) (x y : ℕ) → is_member x (heavy n half t) ≡ true → y < n
    → weight_at half x ≼ weight_at half y → is_member y (heavy n half t) ≡ true
heavier_in_heavy n half t x y m small more =
    let both = and_parts (ltb x n) (not (is_below (weight_at half x) t)) (sym (in_heavy n half t x) ∙ m) in
    let at_least = not_below_gives (weight_at half x) t (not-true (is_below (weight_at half x) t) both.1) in
    let light = not_below_from (weight_at half y) t (at_most_trans t (weight_at half x) (weight_at half y) at_least more) in
    in_heavy n half t y ∙ and_from (ltb y n) (not (is_below (weight_at half y) t)) (lt-ltb y n small) (ap not light)

out_of_set : (x : ℕ) (X H : List ℕ) → is_member x H ≡ true → is_member x (intersection X H) ≡ false → is_member x X ≡ false
out_of_set x X H m out = grind (arith, set_members)

in_both : (x : ℕ) (X H : List ℕ) → is_member x X ≡ true → is_member x H ≡ true → is_member x (intersection X H) ≡ true
in_both x X H a b = grind (arith, set_members)

module _ {n : ℕ} {p : List ℕ → Bool} (laws : IsMatroid n p) (half : List Weight) (t : Weight) (X : List ℕ)
    (best : IsHeaviest p (weight_at half) X) where
  abbrev members : List ℕ
  members = intersection X (heavy n half t)

  abbrev rises : IsRising X
  rises = rising laws X best.passes

  -- where x could be added, all members would weigh as much
  addable_has_all : (x : ℕ) → is_member x (heavy n half t) ≡ true → is_member x X ≡ false → p (with_one X x) ≡ true → IsSubset X members
  addable_has_all x m out adds = record {
    inside = λ y y_in. in_both y X (heavy n half t) y_in (heavier_in_heavy n half t x y m (AllBelow-member n X y (below laws X best.passes) y_in)
        (addable_is_lightest laws (weight_at half) X x y best y_in out adds));
  }

  -- x can take the place only of members that weigh as much
  replaceable_heavy : (x : ℕ) → is_member x (heavy n half t) ≡ true → is_member x X ≡ false → IsSubset (replaceable_by p X x) members
  replaceable_heavy x m out = record {
    inside = λ y h.
        let both = and_parts (is_member y X) _ (sym (is_member-replaceable p X x y) ∙ h) in
        in_both y X (heavy n half t) both.0 (heavier_in_heavy n half t x y m (AllBelow-member n X y (below laws X best.passes) both.0)
        (exchange_gains_nothing laws (weight_at half) X x y best both.0 out both.1));
  }

  pub heavy_members_maximal : length members < length X → IsMaximal p (heavy n half t) members
  heavy_members_maximal fewer = record {
    passes = laws.subsets members X (IsRising-intersection X (heavy n half t) rises) (intersection-left X (heavy n half t)) best.passes;
    inside = intersection-right X (heavy n half t);
    full = λ x m out.
        let x_out = out_of_set x X (heavy n half t) m out in
        elim (cases_Bool (p (with_one X x))) [
          | inl adds ↦
              let all = length-subset X members rises (IsRising-intersection X (heavy n half t) rises) (addable_has_all x m x_out adds) in
              absurd (omega (arith, all, fewer))
          | inr none ↦ full_in_larger laws (replaceable_by p X x) members x (IsRising-replaceable p X x rises) (replaceable_heavy x m x_out)
              (replaceable_full laws X x best.passes x_out none)
        ];
  }
