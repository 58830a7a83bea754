-- The columns of a set are eliminated from its last member to its first: what is left of each is added to the basis.
use Rattle.mat_gf2.proofs.Common.{◌≡◌, ℕ, suc, zero, ◌+◌, ◌-◌, ◌<◌, ◌≤◌, ◌≢◌, Bool, false, ◌&&◌, Result, Ok, Err, IfOk, List, [], ◌∷◌, ◌++◌, length, get_or, drop, refl, sym, ap, ◌∙◌, subst, arith, false≢true, false_from_ne_true, drop_all, drop_more, AllBelow, IsRising, IsSubset, RisesFrom}
use Rattle.mat_gf2.proofs.Common.{RisesFrom-suffix, is_member-head, missing_below, IsSubset-refl, IsSubset-trans, AllBelow-at, is_set-true, IsLinearlyIndependent, is_linearly_independent, is_gf2, reduced, reduced_by, remainder, tail-IsSubset, IsLinearlyIndependent-subset, IsLinearlyIndependent-more}
use Rattle.mat_gf2.proofs.Common.{left_of_independent, IsLinearlyIndependent-from_test}

-- ---- the members before a place, backwards

-- nothing stands behind the last place
pub drop_length : (X : List ℕ) (count : ℕ) → count ≡ length X → drop count X ≡ []
drop_length X count same = drop_all count X (omega arith)

-- the member before a place
pub drop_before : (X : List ℕ) (count place e : ℕ) → count ≡ length X → 0 < place → place ≤ count → e ≡ get_or X (place - 1) 0
    → drop (place - 1) X ≡ e ∷ drop place X
drop_before X count place e same some within at =
    let next : place - 1 + 1 ≡ place = omega arith in
    drop_more X (place - 1) 0 (omega arith) ∙ ap (λ x. x ∷ drop (place - 1 + 1) X) (sym at) ∙ ap (λ k. e ∷ drop k X) next

-- is below n, as all are
pub below_before : (n : ℕ) (X : List ℕ) (count place e : ℕ) → AllBelow n X → count ≡ length X → 0 < place → place ≤ count
    → e ≡ get_or X (place - 1) 0 → e < n
below_before n X count place e below same some within at = subst (λ k. k < n) (sym at) (AllBelow-at n X (place - 1) below (omega arith))

drop-IsSubset : (k : ℕ) (X : List ℕ) → IsSubset (drop k X) X
drop-IsSubset zero X = IsSubset-refl X
drop-IsSubset (suc k) [] = IsSubset-refl []
drop-IsSubset (suc k) (x ∷ X) = IsSubset-trans (drop k X) X (x ∷ X) (drop-IsSubset k X) (tail-IsSubset x X)

-- ---- elimination

pub reduced_by-more : (basis : List ℕ) (b v : ℕ) → reduced_by (basis ++ b ∷ []) v ≡ reduced (reduced_by basis v) b
reduced_by-more [] b v = refl
reduced_by-more (a ∷ basis) b v = reduced_by-more basis b (reduced v a)

-- the columns of Y are linearly independent, and the basis reduces as elimination with them does
pub record IsEliminating (column : ℕ → ℕ) (Y : List ℕ) (basis : List ℕ) : Type 0 where
  pub reduces : (v : ℕ) → reduced_by basis v ≡ remainder column Y v
  pub independent : IsLinearlyIndependent column Y

pub IsEliminating-start : (column : ℕ → ℕ) → IsEliminating column [] []
unfolding remainder
IsEliminating-start column = record { reduces = λ v. refl; independent = record { nonzero = λ s r ins some zero. none s ins some } }
  where
    none : (s : List ℕ) → IsSubset s [] → s ≢ [] → ⊥
    none [] ins some = some refl
    none (x ∷ s) ins some = false≢true (ins.inside x (is_member-head x s))

module _ (column : ℕ → ℕ) (Y : List ℕ) (basis : List ℕ) (e left : ℕ) (told : left ≡ reduced_by basis (column e))
    (h : IsEliminating column Y basis) where
  own : left ≡ remainder column Y (column e)
  own = told ∙ h.reduces (column e)

  pub IsEliminating-more : (left ≡ 0 → ⊥) → IsEliminating column (e ∷ Y) (basis ++ left ∷ [])
  unfolding remainder
  IsEliminating-more some = record {
    reduces = λ v. reduced_by-more basis left v ∙ ap (λ z. reduced z left) (h.reduces v) ∙ ap (reduced (remainder column Y v)) own;
    independent = IsLinearlyIndependent-more column Y e (e ∷ Y) h.independent (λ nothing. some (own ∙ nothing)) (λ z m o. rw o at m);
  }

  -- a set whose last members are e and Y is dependent where nothing is left of e
  pub dependent_from : (X : List ℕ) (k : ℕ) → IsRising X → drop k X ≡ e ∷ Y → left ≡ 0 → is_linearly_independent column X ≡ false
  dependent_from X k r last nothing = false_from_ne_true _ (λ passed.
      let rises : RisesFrom 0 (e ∷ Y) = subst (RisesFrom 0) last (RisesFrom-suffix k 0 X r.rises) in
      let ins : IsSubset (e ∷ Y) X = subst (λ s. IsSubset s X) last (drop-IsSubset k X) in
      left_of_independent column Y e (missing_below e (suc e) Y (omega arith) rises.1)
      (IsLinearlyIndependent-subset column (e ∷ Y) X ins (IsLinearlyIndependent-from_test column X r passed)) (sym own ∙ nothing))

-- the answer for a set, by the answer for its columns
pub is_gf2-answer : {E : Type 0} (n : ℕ) (column : ℕ → ℕ) (X : List ℕ) (r : Result Bool E) → AllBelow n X
    → IfOk r (λ b. b ≡ is_linearly_independent column X) → IfOk r (λ _. IsRising X) → IfOk r (λ b. b ≡ is_gf2 n column X)
is_gf2-answer n column X (Ok b) below answer rising = answer ∙ ap (λ z. z && is_linearly_independent column X) (sym (is_set-true n X rising below))
is_gf2-answer n column X (Err e) below answer rising = tt
