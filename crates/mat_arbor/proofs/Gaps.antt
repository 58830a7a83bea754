-- Gaps of the unit: n numbers take at most n of n + 1 gaps, and a shift that moves a free gap to the end of the unit is free.
use Rattle.mat_arbor.proofs.Common.{◌≡◌, ◌≢◌, ℕ, ◌+◌, ◌-◌, ◌*◌, ◌/◌, ◌%◌, ◌<◌, ◌≤◌, true, false, not, List, length, get_or, inl, inr, sym, ap, ◌∙◌, arith, and_parts, both_ways, cases_Bool, cases_eq, cases_lt, ltb-true, not-true, div_below, div-add-mod', mod-mul-add, mod_below, all_below, is_member}
use Rattle.mat_arbor.proofs.Common.{minus, with_one, IsSet, length-with_one, with_one-holds, is_member-all_below, length-complement, IsSet-with_one, is_member-get_or, is_member-minus, with_one-member, IsSubset-with_one, gap_at, tie_gap, unit_of, IsFreeShift}

pub gap_below : (unit n x : ℕ) → unit ≡ unit_of n → gap_at unit x < n + 1
gap_below unit n x is = div_below (x % unit) tie_gap (n + 1) (omega arith) (omega (arith, mod_below x unit (omega arith)))

-- the gaps that the first numbers take
pub record AreTaken (unit : ℕ) (held : List ℕ) (i : ℕ) (taken : List ℕ) : Type 0 where
  pub set : IsSet (length held + 1) taken
  pub few : length taken ≤ i
  pub each : (a : ℕ) → a < i → is_member (gap_at unit (get_or held a 0)) taken ≡ true

module _ (unit : ℕ) (held : List ℕ) (is : unit ≡ unit_of (length held)) where
  pub AreTaken-more : (i : ℕ) (taken new : List ℕ) (g : ℕ) → g ≡ gap_at unit (get_or held i 0) → new ≡ with_one taken g → AreTaken unit held i taken
      → AreTaken unit held (i + 1) new
  AreTaken-more i taken new g at made t = rw (made, at) (record {
    set = IsSet-with_one (length held + 1) taken gap t.set (gap_below unit (length held) (get_or held i 0) is);
    few = elim (cases_Bool (is_member gap taken)) [
      | inl m ↦ (let f = t.few in omega (arith, ap length (with_one-member taken gap t.set.rising m)))
      | inr o ↦ (let f = t.few in omega (arith, length-with_one taken gap t.set.rising o))
    ];
    each = λ a l. elim (cases_eq a i) [
      | inl same ↦ ap (λ k. is_member (gap_at unit (get_or held k 0)) (with_one taken gap)) same ∙ with_one-holds taken gap
      | inr other ↦ (IsSubset-with_one taken gap).inside (gap_at unit (get_or held a 0)) (t.each a (omega arith))
    ];
  })
    where
      gap : ℕ
      gap = gap_at unit (get_or held i 0)

  -- a rest in another gap, moved so that this one is the last
  moved : (x j : ℕ) → j < length held + 1 → gap_at unit x ≢ j → (x + (unit - (j + 1) * tie_gap)) % unit + tie_gap < unit
  moved x j l other =
      let r = x % unit in
      let whole = div-add-mod' x unit in
      let below = mod_below x unit (omega arith) in
      let shift = unit - (j + 1) * tie_gap in
      elim (cases_lt r (j * tie_gap)) [
        | inl before ↦ (let at : (x + shift) % unit ≡ r + shift =
            ap (λ k. k % unit) (omega arith) ∙ mod-mul-add (x / unit) unit (r + shift) (omega arith) in omega arith)
        | inr from ↦ (let past : (j + 1) * tie_gap ≤ r = omega arith in
            let at : (x + shift) % unit ≡ r - (j + 1) * tie_gap =
            ap (λ k. k % unit) (omega arith) ∙ mod-mul-add (x / unit + 1) unit (r - (j + 1) * tie_gap) (omega arith) in omega arith)
      ]

  pub IsFreeShift-gap : (taken : List ℕ) (j shift : ℕ) → AreTaken unit held (length held) taken → j < length held + 1 → is_member j taken ≡ false
      → shift ≡ unit - (j + 1) * tie_gap → IsFreeShift unit held shift
  IsFreeShift-gap taken j shift t l free made = rw made (record {
    below = omega arith;
    free = λ a la. moved (get_or held a 0) j l (λ same. both_ways _ free (ap (λ k. is_member k taken) (sym same) ∙ t.each a la));
  })

-- a gap of n + 1 is left where at most n are taken, and it is not taken
pub free_gap : (n : ℕ) (taken free : List ℕ) → IsSet (n + 1) taken → length taken ≤ n → free ≡ minus (all_below (n + 1)) taken
    → (0 < length free) × ((j : ℕ) → get_or free 0 0 ≡ j → (j < n + 1) × (is_member j taken ≡ false))
free_gap n taken free set few made =
    let some : 0 < length free = omega (arith, ap length made, length-complement (n + 1) taken set.rising set.below) in (
      some,
      λ j at.
          let parts = and_parts (is_member j (all_below (n + 1))) (not (is_member j taken))
          (sym (is_member-minus j (all_below (n + 1)) taken) ∙ ap (is_member j) (sym made) ∙ is_member-get_or free 0 j some at) in
          (ltb-true j (n + 1) (sym (is_member-all_below j (n + 1)) ∙ parts.0), not-true (is_member j taken) parts.1),
    )
