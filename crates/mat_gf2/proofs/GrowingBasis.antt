-- A greedy run by one elimination: an element can enter exactly where something is left of its column by elimination with the columns of those
-- that entered, in whatever order they did.
use Rattle.mat_gf2.proofs.Common.{◌≡◌, ℕ, ◌<◌, eqb, ◌||◌, true, false, not, ◌&&◌, List, [], ◌∷◌, ◌++◌, inl, inr, refl, sym, ap, ◌∙◌, cases_Bool, and_parts, and_from, false_from_ne_true, or_right, is_member, IsSubset, with_one, is_set, is_member-with_one, IsRising-with_one, IsSet-from_test}
use Rattle.mat_gf2.proofs.Common.{is_set-with_one, IsLinearlyIndependent, is_linearly_independent, is_gf2, reduced_by, remainder, remainder-own, in_span-from_remainder, dependent-with_sum, IsLinearlyIndependent-more, IsLinearlyIndependent-from_test, test_from-IsLinearlyIndependent}
use Rattle.mat_sets.proofs.DisjointSets.{with_one-holds}
use Rattle.mat_gf2.proofs.Eliminating.{IsEliminating, IsEliminating-start, IsEliminating-more}

-- the basis is that of the members of the set, in the order in which they entered, the last one first
pub record IsBasisOf (column : ℕ → ℕ) (set basis : List ℕ) : Type 0 where
  pub entered : List ℕ
  pub same : (z : ℕ) → is_member z entered ≡ is_member z set
  pub eliminates : IsEliminating column entered basis

pub IsBasisOf-start : (column : ℕ → ℕ) (set basis : List ℕ) → set ≡ [] → basis ≡ [] → IsBasisOf column set basis
IsBasisOf-start column set basis none nothing =
    rw (none, nothing) (record { entered = []; same = λ z. refl; eliminates = IsEliminating-start column })

module _ (n : ℕ) (column : ℕ → ℕ) (set basis : List ℕ) (x left : ℕ) (passes : is_gf2 n column set ≡ true) (small : x < n)
    (told : left ≡ reduced_by basis (column x)) (h : IsBasisOf column set basis) where
  rest : left ≡ remainder column h.entered (column x)
  rest = told ∙ h.eliminates.reduces (column x)

  inside : IsSubset h.entered (with_one set x)
  inside = record { inside = λ z m. is_member-with_one z x set ∙ or_right _ (is_member z set) (sym (h.same z) ∙ m) }

  outside : (left ≡ 0 → ⊥) → is_member x set ≡ false
  outside some = false_from_ne_true _ (λ m. some (rest ∙ remainder-own column h.entered x (h.same x ∙ m)))

  grows : (left ≡ 0 → ⊥) → IsLinearlyIndependent column (with_one set x)
  grows some = IsLinearlyIndependent-more column h.entered x (with_one set x) h.eliminates.independent (λ nothing. some (rest ∙ nothing))
      (λ z m o. h.same z ∙ old z (sym (is_member-with_one z x set) ∙ m) o)
    where
      old : (z : ℕ) → (eqb z x || is_member z set) ≡ true → eqb z x ≡ false → is_member z set ≡ true
      old z m o = rw o at m

  -- where something is left, x enters
  pub enters : (left ≡ 0 → ⊥) → true ≡ (not (is_member x set) && is_gf2 n column (with_one set x))
  enters some =
      let tests = and_parts (is_set n set) (is_linearly_independent column set) passes in
      let old = IsSet-from_test n set tests.0 in
      sym (and_from (not (is_member x set)) (is_gf2 n column (with_one set x)) (ap not (outside some))
      (and_from (is_set n (with_one set x)) (is_linearly_independent column (with_one set x)) (is_set-with_one n set x old small)
      (test_from-IsLinearlyIndependent column (with_one set x) (IsRising-with_one set x old.rising) (grows some))))

  -- where nothing is left, it is there or does not fit
  pub stays_out : left ≡ 0 → false ≡ (not (is_member x set) && is_gf2 n column (with_one set x))
  stays_out nothing = elim (cases_Bool (is_member x set)) [
    | inl here ↦ rw here refl
    | inr out ↦ sym (false_from_ne_true _ (λ fits.
        let whole = (and_parts (not (is_member x set)) (is_gf2 n column (with_one set x)) fits).1 in
        let tests = and_parts (is_set n (with_one set x)) (is_linearly_independent column (with_one set x)) whole in
        let new = IsSet-from_test n (with_one set x) tests.0 in
        dependent-with_sum column h.entered (with_one set x) x (h.same x ∙ out)
        (in_span-from_remainder column h.entered (column x) (sym rest ∙ nothing))
        (with_one-holds set x) inside (IsLinearlyIndependent-from_test column (with_one set x) new.rising tests.1)))
  ]

  pub IsBasisOf-more : (left ≡ 0 → ⊥) → IsBasisOf column (with_one set x) (basis ++ left ∷ [])
  IsBasisOf-more some = record {
    entered = x ∷ h.entered;
    same = λ z. ap (λ b. eqb z x || b) (h.same z) ∙ sym (is_member-with_one z x set);
    eliminates = IsEliminating-more column h.entered basis x left told h.eliminates some;
  }
