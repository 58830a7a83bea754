-- The exchanges of a column x outside an independent set I. Where x is the sum of a sublist of I, it can be exchanged for the members of that
-- sublist: without such a member y something is left of x, or else y were a sum of the others; and without another member the sublist still
-- makes x dependent.
use Rattle.mat_gf2.proofs.Common.{◌≡◌, ℕ, ◌<◌, ◌≢◌, Bool, true, false, ◌&&◌, eqb, List, sym, ap, ◌∙◌, inl, inr, arith, cases_Bool, ne_eqb, and_parts, both_ways, false_from_ne_true, is_member, IsRising, IsSubset, IsSet, with_one, without_one, is_set, set_members, same_members, is_member-filter}
use Rattle.mat_gf2.proofs.Common.{RisesFrom-filter, IsRising-with_one, IsRising-without_one, IsSubset-refl, IsSubset-trans, IsSubset-with_one, without_one-IsSubset, IsSet-without_one, IsSet-from_test, is_set-with_one, Exchange, xor_of, IsLinearlyIndependent, is_linearly_independent, is_gf2}
use Rattle.mat_gf2.proofs.Common.{remainder, xor_cancel, InSpan, xor_of-without_one, in_span-from_remainder, remainder-xor, remainder-own, remainder-sum, dependent-with_sum, IsLinearlyIndependent-from_test, test_from-IsLinearlyIndependent, test_with_one}
use Rattle.std.specs.Int.Bits.{bit_xor, xor_zero_r}
use Rattle.std.specs.List.{filter}
use Rattle.mat_laws.specs.Exchanges.{row_of}
use Rattle.mat_laws.proofs.Rows.{row_outside}

-- what a test keeps of I are the members of a part of it, where it agrees with membership there
kept : (p : ℕ → Bool) (I part : List ℕ) → IsRising I → IsRising part → IsSubset part I
    → ((y : ℕ) → is_member y I ≡ true → p y ≡ is_member y part) → part ≡ filter p I
kept p I part r s inside agrees =
    same_members part (filter p I) s (record { rises = RisesFrom-filter p 0 I r.rises })
    (λ k. sym (is_member-filter p k I ∙ elim (cases_Bool (is_member k I)) [
      | inl m ↦ rw m (agrees k m)
      | inr out ↦ rw out (sym (false_from_ne_true (is_member k part) (λ m. both_ways _ out (inside.inside k m))))
    ]))

module _ (column : ℕ → ℕ) (I : List ℕ) (x : ℕ) (rising : IsRising I) (passes : is_linearly_independent column I ≡ true) where
  -- something is left of x without a member of the sublist that makes it
  left_without : (C : InSpan column I (column x)) (y : ℕ) → is_member y C.part ≡ true → remainder column (without_one I y) (column x) ≢ 0
  left_without C y h nothing =
      dependent-with_sum column (without_one I y) I y (grind (arith, set_members))
      (in_span-from_remainder column (without_one I y) (column y) of_y) (C.inside.inside y h)
      (without_one-IsSubset I y) (IsLinearlyIndependent-from_test column I rising passes)
    where
      others : (z : ℕ) → is_member z (without_one C.part y) ≡ true → remainder column (without_one I y) (column z) ≡ 0
      others z m = remainder-own column (without_one I y) z (grind (arith, set_members, C.inside.inside z))

      made : column x ≡ bit_xor (column y) (xor_of column (without_one C.part y))
      made = sym C.sum ∙ sym (xor_cancel (column y) (xor_of column C.part))
          ∙ ap (bit_xor (column y)) (sym (xor_of-without_one column C.part y C.rising h))

      of_y : remainder column (without_one I y) (column y) ≡ 0
      of_y = sym (xor_zero_r (remainder column (without_one I y) (column y)))
          ∙ ap (bit_xor (remainder column (without_one I y) (column y)))
          (sym (remainder-sum column (without_one I y) (without_one C.part y) others))
          ∙ sym (remainder-xor column (without_one I y) (column y) (xor_of column (without_one C.part y)))
          ∙ ap (remainder column (without_one I y)) (sym made) ∙ nothing

  less_one : (y : ℕ) → is_linearly_independent column (without_one I y) ≡ true
  less_one y = test_from-IsLinearlyIndependent column (without_one I y) (IsRising-without_one I y rising)
      (record { nonzero = λ s r inside. f.nonzero s r (IsSubset-trans s (without_one I y) I inside (without_one-IsSubset I y)) })
    where
      f : IsLinearlyIndependent column I
      f = IsLinearlyIndependent-from_test column I rising passes

  -- exchanged for y, by what is left of x without y
  exchanged_left : (y : ℕ) → remainder column (without_one I y) (column x) ≢ 0
      → is_linearly_independent column (with_one (without_one I y) x) ≡ true
  exchanged_left y some = test_with_one column (without_one I y) x (IsRising-without_one I y rising) (less_one y) some

  -- a set that holds x and the sublist that makes it
  dependent : (Y : List ℕ) → IsRising Y → is_member x I ≡ false → (C : InSpan column I (column x)) → IsSubset C.part Y
      → is_linearly_independent column (with_one Y x) ≡ false
  dependent Y s outside C within =
      false_from_ne_true _ (λ passed. dependent-with_sum column C.part (with_one Y x) x
      (false_from_ne_true _ (λ m. both_ways _ outside (C.inside.inside x m)))
      (record { part = C.part; rising = C.rising; inside = IsSubset-refl C.part; sum = C.sum }) (grind (arith, set_members))
      (IsSubset-trans C.part Y (with_one Y x) within (IsSubset-with_one Y x))
      (IsLinearlyIndependent-from_test column (with_one Y x) (IsRising-with_one Y x s) passed))

  exchanged_sum : (y : ℕ) → is_member x I ≡ false → (C : InSpan column I (column x))
      → is_linearly_independent column (with_one (without_one I y) x) ≡ is_member y C.part
  exchanged_sum y outside C = elim (cases_Bool (is_member y C.part)) [
    | inl h ↦ exchanged_left y (left_without C y h) ∙ sym h
    | inr h ↦ dependent (without_one I y) (IsRising-without_one I y rising) outside C (record { inside = λ z m. apart z m h }) ∙ sym h
  ]
    where
      apart : (z : ℕ) → is_member z C.part ≡ true → is_member y C.part ≡ false → is_member z (without_one I y) ≡ true
      apart z m h = let differ : eqb z y ≡ false = ne_eqb z y (λ q. both_ways _ h (ap (λ w. is_member w C.part) (sym q) ∙ m)) in
          grind (arith, set_members, C.inside.inside z)

-- without a member of I, less is left to reduce x by
left_with_less : (column : ℕ → ℕ) (I : List ℕ) (x y : ℕ) → IsRising I → is_linearly_independent column I ≡ true
    → is_member x I ≡ false → remainder column I (column x) ≢ 0
    → remainder column (without_one I y) (column x) ≢ 0
left_with_less column I x y rising passes outside some nothing =
    dependent-with_sum column (without_one I y) (with_one I x) x (grind (arith, set_members))
    (in_span-from_remainder column (without_one I y) (column x) nothing) (grind (arith, set_members))
    (IsSubset-trans (without_one I y) I (with_one I x) (without_one-IsSubset I y) (IsSubset-with_one I x))
    (IsLinearlyIndependent-from_test column (with_one I x) (IsRising-with_one I x rising) (test_with_one column I x rising passes some))

module _ (n : ℕ) (column : ℕ → ℕ) (I : List ℕ) (x : ℕ) (passes : is_gf2 n column I ≡ true) (small : x < n)
    (outside : is_member x I ≡ false) (row : Exchange) where
  set : IsSet n I
  set = IsSet-from_test n I (and_parts (is_set n I) (is_linearly_independent column I) passes).0

  independent : is_linearly_independent column I ≡ true
  independent = (and_parts (is_set n I) (is_linearly_independent column I) passes).1

  -- a set on n elements with x is tested by its columns alone
  by_columns : (Y : List ℕ) → IsSet n Y → is_gf2 n column (with_one Y x) ≡ is_linearly_independent column (with_one Y x)
  by_columns Y s = ap (λ b. b && is_linearly_independent column (with_one Y x)) (is_set-with_one n Y x s small)

  -- where x is a sum
  pub row_of_sum : (C : InSpan column I (column x)) → row.addable ≡ false → row.with ≡ C.part → row ≡ row_of (is_gf2 n column) I x
  row_of_sum C added exchanged =
      row_outside (is_gf2 n column) I x row outside
      (added ∙ sym (by_columns I set ∙ dependent column I x set.rising independent I set.rising outside C C.inside))
      (exchanged ∙ kept (λ y. is_gf2 n column (with_one (without_one I y) x)) I C.part set.rising C.rising C.inside
      (λ y m. by_columns (without_one I y) (IsSet-without_one n I y set) ∙ exchanged_sum column I x set.rising independent y outside C))

  -- where something is left of it
  pub row_of_left : remainder column I (column x) ≢ 0 → row.addable ≡ true → row.with ≡ I → row ≡ row_of (is_gf2 n column) I x
  row_of_left some added exchanged =
      row_outside (is_gf2 n column) I x row outside
      (added ∙ sym (by_columns I set ∙ test_with_one column I x set.rising independent some))
      (exchanged ∙ kept (λ y. is_gf2 n column (with_one (without_one I y) x)) I I set.rising set.rising (IsSubset-refl I)
      (λ y m. by_columns (without_one I y) (IsSet-without_one n I y set)
      ∙ exchanged_left column I x set.rising independent y (left_with_less column I x y set.rising independent outside some) ∙ sym m))
