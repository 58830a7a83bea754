-- The numbers that pass a test, counted one after the other.
use Rattle.mat_sets.proofs.Common.{◌≡◌, ℕ, ◌+◌, ◌≤◌, Bool, true, false, ltb, length, sym, ap, ◌∙◌, arith, and_parts, false_from_ne_true, ltb-true, those_below, is_member}
use Rattle.mat_sets.proofs.Cardinalities.{length-with_one}
use Rattle.mat_sets.proofs.Rounds.{those_below-put, those_below-skip}
use Rattle.mat_sets.proofs.Search.{is_member-those_below, IsSet-those_below, length-those_below_most}

module _ (test : ℕ → Bool) where
  -- so many of the first n numbers pass
  pub record IsCounted (n count : ℕ) : Type 0 where
    pub many : count ≡ length (those_below n test)

  pub IsCounted-few : (n count : ℕ) → IsCounted n count → count ≤ n
  IsCounted-few n count c = let most = length-those_below_most n test in omega (arith, c.many)

  pub IsCounted-start : IsCounted 0 0
  IsCounted-start = record { many = (let most = length-those_below_most 0 test in omega arith) }

  pub IsCounted-put : (n count : ℕ) → test n ≡ true → IsCounted n count → IsCounted (n + 1) (count + 1)
  IsCounted-put n count e c =
      let fresh : is_member n (those_below n test) ≡ false = false_from_ne_true _ (λ h.
      let p = and_parts (ltb n n) (test n) (sym (is_member-those_below n n test) ∙ h) in
      let l = ltb-true n n p.0 in absurd (omega arith)) in
      let size = length-with_one (those_below n test) n (IsSet-those_below n test).rising fresh in
      let more = ap length (those_below-put n test e) in
      record { many = omega (arith, c.many) }

  pub IsCounted-skip : (n count : ℕ) → test n ≡ false → IsCounted n count → IsCounted (n + 1) count
  IsCounted-skip n count e c = record { many = c.many ∙ ap length (those_below-skip n test e) }
