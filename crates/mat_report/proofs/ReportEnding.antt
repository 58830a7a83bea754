-- How a report ended, as each clause of its call says it: by cases on the refusal.
use Rattle.std.proofs.Common.{◌≡◌, ℕ, List, Option, Some, Ok, Err, refl, sym, subst}
use Rattle.std.specs.Prelude.{IsErrAnd}
use Rattle.mat_judge.specs.Statuses.{status_of_denial}
use Rattle.mat_judge.specs.declared.reading.Unread.TheVariants as unread
use Rattle.mat_judge.specs.declared.refusal.Denial.{Denial}
use Rattle.mat_judge.specs.declared.refusal.Denial.TheVariants as denials
use Rattle.mat_judge.specs.declared.refusal.Refusal.{Refusal}
use Rattle.mat_judge.specs.declared.refusal.Refusal.TheVariants as refusals
use Rattle.mat_top.specs.Outcomes.{IsTold}
use Rattle.mat_top.specs.Refusals.{IsRefusal}
use Rattle.mat_top.proofs.Ending.{Ended, status_at}
use Rattle.mat_report.specs.Reports.{Saying, check_of, IsReportWritten}
use Rattle.mat_report.specs.ReportEnds.{IsReportEnded}

module _ (says : Saying) (held : List ℕ → Option (List ℕ)) (description certificate : List ℕ) (before now : List ℕ → ℕ)
    (old : Option (List ℕ)) (out_before out_now : ℕ) where
  -- there was no text
  refused : (refusal : Refusal) → IsRefusal held (check_of description certificate) before now refusal
      → IsReportEnded says held description certificate before now old out_before old out_now (Err refusal)
  refused (refusals.Unread why) cause = (cause, refl)
  refused (refusals.Denied denial) cause = (cause, refl)
  refused _ cause = absurd cause

  pub ended-refused : (refusal : Refusal) (end : Ended) → IsErrAnd end (λ e. e ≡ refusal)
      → IsRefusal held (check_of description certificate) before now refusal
      → IsReportEnded says held description certificate before now old out_before old out_now end
  ended-refused refusal (Ok done) is cause = absurd is
  ended-refused refusal (Err e) is cause =
      refused e (subst (λ r. IsRefusal held (check_of description certificate) before now r) (sym is) cause)

-- where the files deny a call, nothing is written
denied-written : (says : Saying) (held : List ℕ → Option (List ℕ)) (description certificate : List ℕ) (old : Option (List ℕ))
    (denial : Denial) → IsReportWritten says held description certificate old old (status_of_denial denial)
denied-written says held description certificate old (denials.No reason first second) = refl
denied-written says held description certificate old _ = refl

module _ (says : Saying) (held : List ℕ → Option (List ℕ)) (description certificate : List ℕ) (before now : List ℕ → ℕ)
    (old : Option (List ℕ)) (out_before : ℕ) (new : Option (List ℕ)) (out_now : ℕ) where
  abbrev Here : Ended → Type 0
  Here end = IsReportEnded says held description certificate before now old out_before new out_now end

  -- what was written is what the status says
  pub ended-written : (end : Ended) → Here end → IsReportWritten says held description certificate old new (status_at end)
  ended-written (Ok d) (text, may, put) = (text, may.report, put)
  ended-written (Err refusals.WriteFault) (text, may, put, rose) = (text, may.report, put)
  ended-written (Err refusals.Usage) e = absurd e.0
  ended-written (Err (refusals.Unread unread.Fault)) e = e.1
  ended-written (Err (refusals.Unread unread.TooLong)) e = e.1
  ended-written (Err (refusals.Unread unread.Memory)) e = e.1
  ended-written (Err (refusals.Denied denial)) e =
      subst (λ o. IsReportWritten says held description certificate old o (status_of_denial denial)) (sym e.1)
      (denied-written says held description certificate old denial)

  -- the refusal tells what is so
  pub ended-true : (refusal : Refusal) → Here (Err refusal) → IsTold held (Some (check_of description certificate)) refusal
  ended-true (refusals.Denied denial) e = e.0.1
  ended-true _ e = tt
