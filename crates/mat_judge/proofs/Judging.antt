-- A verdict is not both yes and no; and why an answer is not found right is why its file has none.
use Rattle.mat_judge.proofs.Common.{◌≡◌, ℕ, List, Option, Result, Ok, Err, sym, ap, ◌∙◌, IfErr, IfSome, failure_in, IsCertified, IsNotRight, IsNotFoundRight}
use Rattle.std.proofs.lemmas.Option.{none-some}
use Rattle.std.specs.Result.{result_and}
use Rattle.mat_cert.specs.Certificates.{Certificate}
use Rattle.mat_problem.specs.Instances.{Instance}
use Rattle.mat_check.specs.Clauses.{failure_at}
use Rattle.mat_check.specs.declared.reason.Reason.{Reason}
use Rattle.mat_check.specs.declared.verdict.Verdict.{Verdict}
use Rattle.mat_check.specs.declared.verdict.Verdict.TheVariants.{Yes, No}
use Rattle.mat_judge.specs.declared.certified.NotRight.{NotRight}
use Rattle.mat_judge.specs.declared.certified.NotRight.TheVariants as not_right
use Rattle.mat_judge.proofs.Told.{if_told}

pub yes_or_no : (verdict : Verdict) (reason : Reason) (a b : ℕ) → verdict ≡ Yes → verdict ≡ No reason a b → ⊥
yes_or_no verdict reason a b right wrong = none-some (failure_at reason a b) (ap failure_in (sym right ∙ wrong))

-- why a test of a value fails
pub test_fails : {T X E : Type 0} (test : Result T E) (value : X) (P : E → Type 0) → IfErr test P → IfErr (result_and test (Ok value)) P
test_fails (Ok done) value P why = tt
test_fails (Err e) value P why = why

-- the answer in a file
pub not_right_there : (instance : Instance) (held : Option (List ℕ)) (before now : ℕ) (answer : Certificate)
    → IfSome held (λ bytes. IsCertified bytes answer) → (why : NotRight) → IsNotFoundRight instance answer why
    → IsNotRight instance held before now why
not_right_there instance held before now answer certified (not_right.Uncertified why) memory = rw memory tt
not_right_there instance held before now answer certified not_right.WrongShape misfit =
    if_told held _ _ (λ bytes is. record { answer = answer; certified = is; misfit = misfit }) certified
not_right_there instance held before now answer certified (not_right.No reason first second) (fitting, wrong, fails) =
    if_told held _ _ (λ bytes is. record {
      answer = answer;
      certified = is;
      fitting = fitting;
      wrong = wrong;
      fails = fails;
    }) certified
