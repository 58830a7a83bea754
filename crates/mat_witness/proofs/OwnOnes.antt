-- A number has a one where the others have none exactly where not all of its ones are among theirs.
use Rattle.mat_witness.proofs.Common.{◌≡◌, ◌≢◌, ℕ, ◌+◌, ◌^◌, ◌<◌, Bool, true, false, cond, eqb, List, length, get_or, bit_and, bit_or, inl, inr, sym, ap, ◌∙◌, arith, cases_eq, both_ways, true_from_ne_false, false_from_ne_true, eq-eqb, eqb-true, ne_eqb, cond-true, cond-false, and_le_l, bit_at_and}
use Rattle.mat_witness.proofs.Common.{bit_at_or, same_from_bits_below, all_below, some_below_gives, some_below_none, bit_cases, has_own_one, AreOnesOfOthers}
use Rattle.std.specs.Int.{bit_at}
use Rattle.std.specs.List.{list_all}
use Rattle.mat_witness.proofs.PassingLists.{all_below_pass, passes_below, below_next}

pub AreOnesOfOthers-own : (numbers : List ℕ) (place j ones : ℕ) → AreOnesOfOthers numbers place j ones → j ≡ place
    → AreOnesOfOthers numbers place (j + 1) ones
AreOnesOfOthers-own numbers place j ones h own = record {
  all = λ p clear. below_next (λ k. k ≢ place → bit_at (get_or numbers k 0) p ≡ 0) j (h.all p clear) (λ other. absurd (other own));
  only = λ p clear. h.only p (λ k l. clear k (omega arith));
}

pub AreOnesOfOthers-more : (numbers : List ℕ) (place j ones : ℕ) → AreOnesOfOthers numbers place j ones → j ≢ place
    → AreOnesOfOthers numbers place (j + 1) (bit_or ones (get_or numbers j 0))
AreOnesOfOthers-more numbers place j ones h other = record {
  all = λ p clear.
      let none = sym (bit_at_or ones (get_or numbers j 0) p) ∙ clear in
      below_next (λ k. k ≢ place → bit_at (get_or numbers k 0) p ≡ 0) j (h.all p (omega arith)) (λ other. omega arith);
  only = λ p clear.
      let before = h.only p (λ k l. clear k (omega arith)) in
      let now = clear j (omega arith) other in
      bit_at_or ones (get_or numbers j 0) p ∙ (omega arith);
}

module _ (dim : ℕ) (numbers : List ℕ) (i ones : ℕ) (others : AreOnesOfOthers numbers i (length numbers) ones) (within : i < length numbers)
    (small : get_or numbers i 0 < 2 ^ dim) where
  abbrev z : ℕ
  z = get_or numbers i 0

  abbrev alone : ℕ → ℕ → Bool
  alone place j = eqb (bit_at (get_or numbers j 0) place) (cond (eqb i j) 1 0)

  pub no_own_one : bit_and z ones ≡ z → has_own_one dim numbers i ≡ false
  no_own_one same = false_from_ne_true (has_own_one dim numbers i) (λ has.
      let w = some_below_gives dim (λ place. list_all (alone place) (all_below (length numbers))) has in
      let each = λ (j : ℕ) (l : j < length numbers). eqb-true (bit_at (get_or numbers j 0) w.0) (cond (eqb i j) 1 0)
      (all_below_pass (length numbers) (alone w.0) j w.2 l) in
      let own = each i within ∙ cond-true (eqb i i) 1 0 (eq-eqb i i (omega arith)) in
      let clear = others.only w.0 (λ j l other. each j l ∙ cond-false (eqb i j) 1 0 (ne_eqb i j (λ e. other (sym e)))) in
      let both = bit_at_and z ones w.0 in
      let kept = ap (λ x. bit_at x w.0) same in
      omega arith)

  pub own_one : bit_and z ones ≢ z → has_own_one dim numbers i ≡ true
  own_one differ = true_from_ne_false (has_own_one dim numbers i) (λ none.
      differ (same_from_bits_below dim (bit_and z ones) z (let less = and_le_l z ones in omega arith) small (each_bit none)))
    where
      covered : has_own_one dim numbers i ≡ false → (p : ℕ) → p < dim → bit_at z p ≡ 1 → bit_at ones p ≡ 0 → ⊥
      covered none p l one clear =
          both_ways (list_all (alone p) (all_below (length numbers)))
          (some_below_none dim p (λ place. list_all (alone place) (all_below (length numbers))) none l)
          (passes_below (length numbers) (alone p) (λ j k. eq-eqb (bit_at (get_or numbers j 0) p) (cond (eqb i j) 1 0) (elim (cases_eq i j) [
            | inl e ↦ ap (λ q. bit_at (get_or numbers q 0) p) (sym e) ∙ one ∙ sym (cond-true (eqb i j) 1 0 (eq-eqb i j e))
            | inr d ↦ others.all p clear j k (λ e. d (sym e)) ∙ sym (cond-false (eqb i j) 1 0 (ne_eqb i j d))
          ])))

      each_bit : has_own_one dim numbers i ≡ false → (p : ℕ) → p < dim → bit_at (bit_and z ones) p ≡ bit_at z p
      each_bit none p l = bit_at_and z ones p ∙ elim (bit_cases z p) [
        | inr clear ↦ omega arith
        | inl one ↦ elim (bit_cases ones p) [ inl there ↦ omega arith | inr clear ↦ absurd (covered none p l one clear) ]
      ]
