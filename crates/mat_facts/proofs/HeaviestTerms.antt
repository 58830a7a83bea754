-- Where a set is heaviest of its size, no independent set has more members above any of its terms: one that had would give it a member for a
-- lighter one.
use Rattle.mat_facts.proofs.Common.{◌≡◌, ◌<◌, ◌≤◌, ℕ, Bool, true, false, not, ◌||◌, eqb, List, length, inl, inr, refl, sym, ◌∙◌, subst, arith, and_parts, and_from, both_ways, cases_eq, cases_lt, eq-eqb, eqb-true, false_from_ne_true, ne_eqb, not_from_false, or_cases, or_left, or_right, is_member}
use Rattle.mat_facts.proofs.Common.{with_one, without_one, IsRising, IsSubset, ◌≼◌, is_below, weight_at, Weight, IsRising-filter, is_member-filter, is_member-with_one, is_member-without_one, IsRising-with_one, IsRising-without_one, same_size_subset, subset_or, at_most_not, at_most_trans}
use Rattle.mat_facts.proofs.Common.{below_gives, not_below_gives, IsMatroid, grow_to_size, rising, IsGrown, falling_terms, length-filter}
use Rattle.std.specs.List.{count_by, filter}
use Rattle.mat_sets.proofs.Cardinalities.{length-exchange_one, length-with_one}
use Rattle.mat_laws.specs.Heaviest.{IsHeaviest}
use Rattle.mat_laws.proofs.LocallyHeaviest.{exchange_gains_nothing}
use Rattle.mat_facts.proofs.BoundedSums.{count_above}
use Rattle.mat_facts.proofs.FallingTerms.{length-falling_terms, members_above}

-- a member of X + e other than y is one of X - y + e
kept : (X M : List ℕ) (e y k : ℕ) → IsSubset M X → is_member y X ≡ true → is_member e X ≡ false → (is_member k (with_one M e) || is_member k X) ≡ true
    → (k ≡ y → ⊥) → is_member k (with_one (without_one X y) e) ≡ true
kept X M e y k inside has out found other = elim (cases_eq k e) [
  | inl same ↦ is_member-with_one k e (without_one X y) ∙ or_left (eqb k e) _ (eq-eqb k e same)
  | inr different ↦
      let member : is_member k X ≡ true = elim (or_cases _ _ found) [
        | inl m ↦ (let parts = sym (is_member-with_one k e M) ∙ m in elim (or_cases _ _ parts) [
          | inl eq ↦ absurd (different (eqb-true k e eq))
          | inr mm ↦ inside.inside k mm
        ])
        | inr m ↦ m
      ] in
      is_member-with_one k e (without_one X y) ∙ or_right (eqb k e) _
      (is_member-without_one k y X ∙ and_from (is_member k X) (not (eqb k y)) member (not_from_false _ (ne_eqb k y other)))
]

module _ {n : ℕ} {p : List ℕ → Bool} (laws : IsMatroid n p) (w : ℕ → Weight) (X : List ℕ) (h : IsHeaviest p w X) (t : Weight) where
  -- the members of a set with more than t
  abbrev more : List ℕ → List ℕ
  more Y = filter (λ x. is_below t (w x)) Y

  in_more : (Y : List ℕ) (x : ℕ) → is_member x (more Y) ≡ true → (is_member x Y ≡ true) × (is_below t (w x) ≡ true)
  in_more Y x m = and_parts (is_member x Y) (is_below t (w x)) (sym (is_member-filter (λ x. is_below t (w x)) x Y) ∙ m)

  to_more : (Y : List ℕ) (x : ℕ) → is_member x Y ≡ true → is_below t (w x) ≡ true → is_member x (more Y) ≡ true
  to_more Y x m b = is_member-filter (λ x. is_below t (w x)) x Y ∙ and_from (is_member x Y) (is_below t (w x)) m b

  passes_more : (Y : List ℕ) → p Y ≡ true → p (more Y) ≡ true
  passes_more Y ok = laws.subsets (more Y) Y (IsRising-filter (λ x. is_below t (w x)) Y (rising laws Y ok)) (record { inside = λ x m. (in_more Y x m).0 }) ok

  -- an independent set K of X + e that has e and lacks y, a member of X: e has no more than y
  lighter : (e y : ℕ) (K : List ℕ) → is_member e X ≡ false → is_member y X ≡ true → p K ≡ true → length K ≡ length X
      → ((k : ℕ) → is_member k K ≡ true → (is_member k (with_one (more X) e) || is_member k X) ≡ true) → is_member y K ≡ false → w e ≼ w y
  lighter e y K outside member ok size inside lacks =
      let rx = rising laws X h.passes in
      let rc : IsRising (with_one (without_one X y) e) = IsRising-with_one (without_one X y) e (IsRising-without_one X y rx) in
      let subset : IsSubset K (with_one (without_one X y) e) = record {
        inside = λ k m.
            kept X (more X) e y k (record { inside = λ x q. (in_more X x q).0 }) member outside (inside k m)
            (λ s. both_ways _ lacks (subst (λ z. is_member z K ≡ true) s m));
      } in
      let changed : length (with_one (without_one X y) e) ≡ length X = length-exchange_one X e y rx member outside in
      let same : K ≡ with_one (without_one X y) e = same_size_subset K (with_one (without_one X y) e) (rising laws K ok) rc subset (omega arith) in
      exchange_gains_nothing laws w X e y h member outside (subst (λ Y. p Y ≡ true) same ok)

  -- a larger set that has e and X has such a y
  lacking : (e : ℕ) (K : List ℕ) → is_member e X ≡ false → is_member e K ≡ true → p K ≡ true → length K ≡ length X
      → (y : ℕ) × (is_member y X ≡ true) × (is_member y K ≡ false)
  lacking e K outside has ok size = elim (subset_or X K) [
    | inl inside ↦
        absurd (both_ways _ outside (subst (λ Y. is_member e Y ≡ true)
        (sym (same_size_subset X K (rising laws X h.passes) (rising laws K ok) inside (omega arith))) has))
    | inr found ↦ found
  ]

  -- an element with more than t that can be added to those of X that have more: then X has no other members
  none_added : (e : ℕ) → is_below t (w e) ≡ true → is_member e (more X) ≡ false → p (with_one (more X) e) ≡ true → count_above w t X < length X → ⊥
  none_added e high out ok few =
      let rm : IsRising (more X) = IsRising-filter (λ x. is_below t (w x)) X (rising laws X h.passes) in
      let outside : is_member e X ≡ false = false_from_ne_true _ (λ m. both_ways _ out (to_more X e m high)) in
      let size = length-with_one (more X) e rm out in
      let grown = grow_to_size laws (with_one (more X) e) X ok h.passes (omega arith) in
      ends e high outside grown.0 grown.1
    where
      ends : (e : ℕ) → is_below t (w e) ≡ true → is_member e X ≡ false → (K : List ℕ) → IsGrown p (with_one (more X) e) X K → ⊥
      ends e high outside K g =
          let has : is_member e K ≡ true = g.holds.inside e (is_member-with_one e e (more X) ∙ or_left (eqb e e) _ (eq-eqb e e refl)) in
          let found = lacking e K outside has g.passes g.size in
          let gains = lighter e found.0 K outside found.1 g.passes g.size g.inside found.2 in
          let low : is_below t (w found.0) ≡ false = false_from_ne_true _ (λ b.
          both_ways _ found.2 (g.holds.inside found.0 (is_member-with_one found.0 e (more X) ∙ or_right (eqb found.0 e) _ (to_more X found.0 found.1 b)))) in
          at_most_not (w e) t (at_most_trans _ _ _ gains (not_below_gives t (w found.0) low)) (below_gives t (w e) high)

  -- so no independent set has more members with more than t
  pub none_has_more : count_above w t X < length X → (J : List ℕ) → p J ≡ true → count_above w t J ≤ count_above w t X
  none_has_more few J ok = elim (cases_lt (count_above w t X) (count_above w t J)) [
    | inr le ↦ le
    | inl less ↦
        let a = laws.augmentation (more X) (more J) (passes_more X h.passes) (passes_more J ok) less in
        absurd (none_added a.element (in_more J a.element a.inside).1 a.outside a.augmented few)
  ]

-- the terms of a heaviest set bound every independent set
pub terms_of_heaviest : {n : ℕ} {p : List ℕ → Bool} → IsMatroid n p → (w : ℕ → Weight) (X : List ℕ) → IsHeaviest p w X
    → (J : List ℕ) → p J ≡ true → (l : ℕ) → l < length (falling_terms w X)
    → count_by (λ x. is_below (weight_at (falling_terms w X) l) (w x)) J ≤ l
terms_of_heaviest laws w X h J ok l less =
    let inside : l < length X = let e = length-falling_terms w X in omega arith in
    let few = members_above w X l inside in
    let most = none_has_more laws w X h (weight_at (falling_terms w X) l) (omega arith) J ok in
    let same = length-filter (λ x. is_below (weight_at (falling_terms w X) l) (w x)) J in
    omega arith
