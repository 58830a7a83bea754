-- What a sink that tells its room was given, and how much of it there was room for.
use Rattle.std.proofs.Common.{◌≡◌, ℕ, ◌<◌, ◌≤◌, List, [], ◌∷◌, ◌++◌, length, take, Option, Some, refl, sym, ap, subst, ◌∙◌, arith, inl, inr}
use Rattle.std.proofs.Math.Seq.{take-append_seam}
use Rattle.std.proofs.lemmas.Bool.{cases_lt}
use Rattle.std.proofs.lemmas.List.{take_all, take_at, length-append}
use Rattle.mat_shelf.specs.Faults.{Rose}
use Rattle.mat_shelf.specs.Writing.{Appended, AppendedProperPrefix}
use Rattle.mat_command.specs.CommandLines.{Task}
use Rattle.mat_judge.specs.Notes.{IsNoted}
use Rattle.mat_judge.specs.declared.status.Status.{Status}
use Rattle.mat_judge.specs.declared.status.Status.TheVariants as statuses
use Rattle.mat_top.specs.Outcomes.{IsOutput, IsWritten}
use Rattle.mat_call.specs.CallEnds.{IsWrittenInto}

-- the room stays, and the text stands behind what was taken
pub record IsAppended (room now : ℕ) (text taken : List ℕ) : Type 0 where
  pub room_stays : now ≡ room
  pub whole : taken ≡ text

appended : (room now : ℕ) (text taken : List ℕ) → Appended (Some (room ∷ [])) text (Some (now ∷ taken)) → IsAppended room now text taken
appended room now text taken (before, is, whole) =
    let same : room ∷ [] ≡ before = cc in
    let all : now ∷ taken ≡ (room ∷ []) ++ text = rw (sym same) at whole in
    record { room_stays = cc; whole = cc }

-- what is written behind the room is what there is room for, and the room stays
pub record IsWrittenBehind (held : List ℕ → Option (List ℕ)) (asked : Option Task) (room now : ℕ) (taken : List ℕ) (status : Status) : Type 0 where
  pub room_stays : now ≡ room
  pub written : IsWrittenInto held asked room taken status

module _ (held : List ℕ → Option (List ℕ)) (asked : Option Task) (room now : ℕ) (taken : List ℕ) where
  nothing_written : (status : Status) → (taken ≡ [] → IsWrittenInto held asked room taken status)
      → Some (now ∷ taken) ≡ Some (room ∷ []) → IsWrittenBehind held asked room now taken status
  nothing_written status none same = record { room_stays = cc; written = none cc }

  part_written : (text : List ℕ) → IsOutput held asked text → AppendedProperPrefix (Some (room ∷ [])) text (Some (now ∷ taken))
      → length taken ≤ now → now ≤ length taken → IsWrittenBehind held asked room now taken statuses.WriteFault
  part_written text output put within over =
      let is = appended room now put.front taken put.appended in
      let count : length put.front ≡ room = omega (arith, ap length is.whole, is.room_stays, within, over) in
      let longer : room < length text = omega (arith, ap length put.whole, length-append put.front put.rest, put.unwritten, count) in
      let front : take room text ≡ put.front = ap (λ (t : List ℕ). take room t) put.whole ∙ take_at put.front put.rest room count in
      record { room_stays = is.room_stays; written = (text, output, longer, is.whole ∙ sym front) }

  pub written_behind : (status : Status) → length taken ≤ now → (status ≡ statuses.WriteFault → now ≤ length taken)
      → IsWritten held asked (Some (room ∷ [])) (Some (now ∷ taken)) status → IsWrittenBehind held asked room now taken status
  written_behind statuses.Done within over (text, output, put) =
      let is = appended room now text taken put in
      record {
        room_stays = is.room_stays;
        written = (subst (λ (t : List ℕ). IsOutput held asked t) (sym is.whole) output, omega (arith, is.room_stays, within));
      }
  written_behind statuses.WriteFault within over (text, output, put) = part_written text output put within (over refl)
  written_behind status within over same = nothing_written status (λ none. none) same

-- ---- counts of faults of a sink that fails only where it is full

pub full : (room count before now : ℕ) → (0 < now → room ≤ count) → Rose before now → room ≤ count
full room count before now cause (inl more) = cause (omega (arith, more))
full room count before now cause (inr last) = cause (omega (arith, last))

-- a note is cut off where there is no room left
pub record IsCutOff (text : List ℕ) (room now : ℕ) (taken : List ℕ) : Type 0 where
  pub room_stays : now ≡ room
  pub cut : taken ≡ take room text

module _ (text : List ℕ) (room now before faults : ℕ) (taken : List ℕ) where
  pub note_cut : IsNoted text (Some (room ∷ [])) before (Some (now ∷ taken)) faults → length taken ≤ now → (0 < faults → now ≤ length taken)
      → IsCutOff text room now taken
  note_cut noted within cause =
      let front = noted.prefix.0 in
      let rest = noted.prefix.1 in
      let is = appended room now front taken noted.prefix.3 in
      elim (cases_lt (length taken) now) [
        | inl less ↦
            let whole = appended room now text taken
            (noted.whole (λ rose. let over = full now (length taken) before faults cause rose in omega (arith, less, over))) in
            record { room_stays = is.room_stays; cut = whole.whole ∙ sym (take_all room text (rw (sym whole.whole) (omega (arith, less, is.room_stays)))) }
        | inr over ↦
            let count : length front ≡ room = rw (sym is.whole) (omega (arith, over, within, is.room_stays)) in
            record { room_stays = is.room_stays; cut = is.whole ∙ sym (rw (noted.prefix.2, sym count) (take-append_seam front rest)) }
      ]
