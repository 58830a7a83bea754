-- How a report ends: why nothing is written, or what is.
use Rattle.std.specs.Prelude.{◌≡◌, ℕ, List, Option, Some, Result, Ok, Err}
use Rattle.mat_shelf.specs.Faults.{Rose}
use Rattle.mat_shelf.specs.Writing.{Appended, AppendedProperPrefix}
use Rattle.mat_judge.specs.declared.refusal.Refusal.{Refusal}
use Rattle.mat_judge.specs.declared.refusal.Refusal.TheVariants as refusals
use Rattle.mat_judge.specs.declared.status.Status.TheVariants as statuses
use Rattle.mat_top.specs.Outcomes.{Tells, IsOutcome}
use Rattle.mat_top.specs.Refusals.{IsRefusal}
use Rattle.mat_report.specs.Reports.{Saying, check_of, IsReport}

-- the text may be written: it reports the answer, and the outcome of the check is Done where the files are told
pub record MayBeReported (says : Saying) (held : List ℕ → Option (List ℕ)) (description certificate text : List ℕ) : Type 0 where
  pub report : IsReport says held description certificate text
  pub outcome : Tells held (Some (check_of description certificate)) → IsOutcome held (Some (check_of description certificate)) statuses.Done

-- how a report ended: with the counts of the shelf's faults, and what the output tells and its count of faults, before and after
abbrev pub IsReportEnded : Saying → (List ℕ → Option (List ℕ)) → List ℕ → List ℕ → (List ℕ → ℕ) → (List ℕ → ℕ) → Option (List ℕ) → ℕ
    → Option (List ℕ) → ℕ
    → Result (Unit {0}) Refusal → Type 0
IsReportEnded says held description certificate before now old out_before new out_now (Ok done) =
    (text : List ℕ) × MayBeReported says held description certificate text × Appended old text new
IsReportEnded says held description certificate before now old out_before new out_now (Err refusals.WriteFault) =
    (text : List ℕ) × MayBeReported says held description certificate text × AppendedProperPrefix old text new × Rose out_before out_now
IsReportEnded says held description certificate before now old out_before new out_now (Err refusal) =
    IsRefusal held (check_of description certificate) before now refusal × (new ≡ old)
