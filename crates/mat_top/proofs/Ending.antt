-- How a command ended, as each clause of the top call says it: by cases on the refusal.
use Rattle.mat_top.proofs.Common.{ℕ, List, Option, Some, Result, Ok, Err, refl, sym, subst, Task, note_of, Refusal, Status, IsWritten, IsNote, IsTold, IsRefusal, IsEnded}
use Rattle.mat_judge.specs.Statuses.{status_of, status_of_denial}
use Rattle.mat_judge.specs.declared.reading.Unread.TheVariants as unread
use Rattle.mat_judge.specs.declared.refusal.Denial.{Denial}
use Rattle.mat_judge.specs.declared.refusal.Denial.TheVariants as denials
use Rattle.mat_judge.specs.declared.refusal.Refusal.TheVariants as refusals
use Rattle.mat_judge.specs.declared.status.Status.TheVariants as statuses

abbrev pub Ended : Type 0
Ended = Result (Unit {0}) Refusal

-- the status of an ended command
abbrev pub status_at : Ended → Status
status_at (Ok done) = statuses.Done
status_at (Err refusal) = status_of refusal

-- there was no text
pub refused : (held : List ℕ → Option (List ℕ)) (task : Task) (before now : List ℕ → ℕ) (old : Option (List ℕ)) (out_before out_now : ℕ)
    (refusal : Refusal)
    → IsRefusal held task before now refusal → IsEnded held task before now old out_before old out_now (Err refusal)
refused held task before now old out_before out_now (refusals.Unread why) cause = (cause, refl)
refused held task before now old out_before out_now (refusals.Denied denial) cause = (cause, refl)
refused held task before now old out_before out_now _ cause = absurd cause

-- where the files deny a call, nothing is written
denied-written : (held : List ℕ → Option (List ℕ)) (asked : Option Task) (old : Option (List ℕ)) (denial : Denial)
    → IsWritten held asked old old (status_of_denial denial)
denied-written held asked old (denials.No reason first second) = refl
denied-written held asked old denial = refl

module _ (held : List ℕ → Option (List ℕ)) (task : Task) (before now : List ℕ → ℕ) (old : Option (List ℕ)) (out_before : ℕ)
    (new : Option (List ℕ)) (out_now : ℕ) where
  abbrev Here : Ended → Type 0
  Here end = IsEnded held task before now old out_before new out_now end

  -- what was written is what the status says
  pub ended-written : (end : Ended) → Here end → IsWritten held (Some task) old new (status_at end)
  ended-written (Ok d) (text, may, put) = (text, may.output, put)
  ended-written (Err refusals.WriteFault) (text, may, put, rose) = (text, may.output, put)
  ended-written (Err refusals.Usage) e = absurd e.0
  ended-written (Err (refusals.Denied denial)) e =
      subst (λ o. IsWritten held (Some task) old o (status_of_denial denial)) (sym e.1) (denied-written held (Some task) old denial)
  ended-written (Err (refusals.Unread unread.Fault)) e = e.1
  ended-written (Err (refusals.Unread why)) e = e.1

  -- the refusal tells what is so
  pub ended-true : (refusal : Refusal) → Here (Err refusal) → IsTold held (Some task) refusal
  ended-true (refusals.Denied denial) e = e.0.1
  ended-true refusal e = tt

-- a refusal's note is that of its status
module _ (held : List ℕ → Option (List ℕ)) (asked : Option Task) where
  note_told : (denial : Denial) → IsTold held asked (refusals.Denied denial) → IsNote held asked (status_of_denial denial) (note_of (refusals.Denied denial))
  note_told (denials.No reason first second) h = (refusals.Denied (denials.No reason first second), refl, refl, h)
  note_told denial h = (refusals.Denied denial, refl, refl, h)

  pub note_is : (refusal : Refusal) → IsTold held asked refusal → IsNote held asked (status_of refusal) (note_of refusal)
  note_is (refusals.Denied denial) h = note_told denial h
  note_is (refusals.Unread unread.Fault) h = (refusals.Unread unread.Fault, refl, refl, h)
  note_is refusal h = (refusal, refl, refl, h)
