-- The clause of the last rung, read off the rung that stands last.
use Rattle.mat_check.proofs.Common.{◌≡◌, ℕ, ◌-◌, ◌<◌, Bool, true, false, not, List, [], length, get_or, Some, None, slice_get, sym, ap, ◌∙◌, arith, slice_get-get_or, has_addable, last_rung, PlainRung, Clause, failure_at, first_failure, last_clause}
use Rattle.mat_check.specs.declared.reason.Reason.TheVariants.{Short}
use Rattle.mat_check.proofs.FailingClauses.{first_of_holding, first_of_failing}

-- the last of some rungs
abbrev pub last_of : List PlainRung → PlainRung → PlainRung
last_of rungs other = get_or rungs (length rungs - 1) other

pub last_is : (rungs : List PlainRung) (other : PlainRung) → 0 < length rungs
    → slice_get rungs (last_rung rungs) ≡ Some (last_of rungs other)
last_is rungs other some = slice_get-get_or rungs (length rungs - 1) other (omega (arith, some))

-- the clause of the last rung
abbrev pub short_clause : ℕ → (List ℕ → Bool) → List PlainRung → PlainRung → Clause
short_clause n p rungs other = record {
  holds = not (has_addable n p (last_of rungs other).set);
  failure = failure_at Short (last_rung rungs) 0;
}

pub last_clause_fails : (n : ℕ) (p : List ℕ → Bool) (rungs : List PlainRung) (other : PlainRung) → 0 < length rungs
    → has_addable n p (last_of rungs other).set ≡ true
    → Some (failure_at Short (length rungs - 1) 0) ≡ first_failure (last_clause n p (last_rung rungs) (slice_get rungs (last_rung rungs)))
last_clause_fails n p rungs other some found =
    sym (ap (λ r. first_failure (last_clause n p (last_rung rungs) r)) (last_is rungs other some)
    ∙ first_of_failing (short_clause n p rungs other) [] (ap not found))

pub last_clause_holds : (n : ℕ) (p : List ℕ → Bool) (rungs : List PlainRung) (other : PlainRung) → 0 < length rungs
    → has_addable n p (last_of rungs other).set ≡ false
    → None ≡ first_failure (last_clause n p (last_rung rungs) (slice_get rungs (last_rung rungs)))
last_clause_holds n p rungs other some none =
    sym (ap (λ r. first_failure (last_clause n p (last_rung rungs) r)) (last_is rungs other some)
    ∙ first_of_holding (short_clause n p rungs other) [] (ap not none))
