-- The first failures, rung by rung: the first of them in order is the first of all clauses.
use Rattle.mat_check.proofs.Common.{◌≡◌, ℕ, zero, suc, ◌+◌, ◌<◌, List, [], ◌∷◌, ◌++◌, length, get_or, Option, Some, None, slice_get, refl, sym, subst, ap, ◌∙◌, arith, none-some, same_Some, StandFrom, StandFrom_items, Clause, Failure, first_failure, numbered_clauses, rungs_failures, first_in_order}
use Rattle.mat_check.proofs.FailingClauses.{first_in_back, first_in_front}

first_of_joined : (front back : List Clause) (found : Option Failure) (failures : List (Option Failure)) → first_failure front ≡ found
    → first_in_order failures ≡ first_failure back → first_in_order (found ∷ failures) ≡ first_failure (front ++ back)
first_of_joined front back None failures e h = h ∙ sym (first_in_back front back e)
first_of_joined front back (Some failure) failures e h = sym (first_in_front front back failure e)

module _ {R : Type 0} (clauses_of_rung : ℕ → R → List Clause) where
  pub length-rungs_failures : (k : ℕ) (rungs : List R) → length (rungs_failures clauses_of_rung k rungs) ≡ length rungs
  length-rungs_failures k [] = refl
  length-rungs_failures k (rung ∷ rungs) = ap suc (length-rungs_failures (suc k) rungs)

  failure_from : (k i : ℕ) (rungs : List R) (rung : R) → slice_get rungs i ≡ Some rung
      → get_or (rungs_failures clauses_of_rung k rungs) i None ≡ first_failure (clauses_of_rung (k + i) rung)
  failure_from k i [] rung at = absurd (none-some rung at)
  failure_from k zero (first ∷ rungs) rung at =
      let same : k ≡ k + 0 = omega arith in
      ap (λ r. first_failure (clauses_of_rung k r)) (same_Some first rung at) ∙ ap (λ m. first_failure (clauses_of_rung m rung)) same
  failure_from k (suc i) (first ∷ rungs) rung at =
      let same : suc k + i ≡ k + suc i = omega arith in
      failure_from (suc k) i rungs rung at ∙ ap (λ m. first_failure (clauses_of_rung m rung)) same

  -- the first failure of rung k
  pub failure_of_rung : (k : ℕ) (rungs : List R) (rung : R) → slice_get rungs k ≡ Some rung
      → get_or (rungs_failures clauses_of_rung 0 rungs) k None ≡ first_failure (clauses_of_rung k rung)
  failure_of_rung k rungs rung at =
      let same : 0 + k ≡ k = omega arith in
      failure_from 0 k rungs rung at ∙ ap (λ m. first_failure (clauses_of_rung m rung)) same

  pub first_of_rungs : (k : ℕ) (rungs : List R)
      → first_in_order (rungs_failures clauses_of_rung k rungs) ≡ first_failure (numbered_clauses clauses_of_rung k rungs)
  first_of_rungs k [] = refl
  first_of_rungs k (rung ∷ rungs) = first_of_joined (clauses_of_rung k rung) (numbered_clauses clauses_of_rung (suc k) rungs)
      (first_failure (clauses_of_rung k rung)) (rungs_failures clauses_of_rung (suc k) rungs) refl (first_of_rungs (suc k) rungs)

  -- a job's list of failures has one for each rung
  module _ (rungs : List R) (failures : List (Option Failure)) (is : rungs_failures clauses_of_rung 0 rungs ≡ failures) (k : ℕ)
      (has : k < length failures) where
    pub rung_inside : k < length rungs
    rung_inside = subst (λ m. k < m) (sym (ap length is) ∙ length-rungs_failures 0 rungs) has

    pub failure_stands : (rung : R) → slice_get rungs k ≡ Some rung → (found : Option Failure) → found ≡ first_failure (clauses_of_rung k rung)
        → found ≡ get_or failures k None
    failure_stands rung at found h = h ∙ sym (failure_of_rung k rungs rung at) ∙ ap (λ xs. get_or xs k None) is

  -- the failures that a job finds tell the first of all
  pub first_of_found : (rungs : List R) (found : List (Option Failure)) → length found ≡ length rungs
      → StandFrom (λ k o. o ≡ get_or (rungs_failures clauses_of_rung 0 rungs) k None) 0 found
      → first_in_order found ≡ first_failure (numbered_clauses clauses_of_rung 0 rungs)
  first_of_found rungs found count h =
      ap first_in_order (StandFrom_items found (rungs_failures clauses_of_rung 0 rungs) None (count ∙ sym (length-rungs_failures 0 rungs)) h)
      ∙ first_of_rungs 0 rungs
