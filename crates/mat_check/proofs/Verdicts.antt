-- A verdict that tells the first clause that fails is Yes exactly where the answer is right.
use Rattle.mat_check.proofs.Common.{◌≡◌, ◌↔◌, true, refl, sym, ap, ◌∙◌, none-some, IsValid, Instance, Certificate, IsRanged, IsRight, failure_of, failure_at, fits}
use Rattle.mat_check.specs.Views.{failure_in}
use Rattle.mat_check.specs.declared.verdict.Verdict.{Verdict}
use Rattle.mat_check.specs.declared.verdict.Verdict.TheVariants.{Yes, No}
use Rattle.mat_check.proofs.RightAnswers.{right_has_no_failure}

module _ (instance : Instance) (answer : Certificate) (valid : IsValid instance) (ranged : IsRanged answer)
    (fitting : fits instance answer ≡ true) where
  pub yes_where_right : (v : Verdict) → failure_in v ≡ failure_of instance answer → (v ≡ Yes) ↔ IsRight instance answer
  yes_where_right Yes told = (λ e. (right_has_no_failure instance answer valid ranged fitting).1 (sym told), λ right. refl)
  yes_where_right (No reason a b) told = (
    λ e. absurd (none-some (failure_at reason a b) (sym (ap failure_in e))),
    λ right. absurd (none-some (failure_at reason a b) (sym ((right_has_no_failure instance answer valid ranged fitting).0 right) ∙ sym told)),
  )
