use Rattle.std.proofs.Common.{◌≡◌, ◌≤◌, ℕ, List, arith, map, length, string_bytes}
use Rattle.mat_command.specs.CommandLines.{asked_by}
use Rattle.mat_judge.specs.declared.status.Status.TheVariants as statuses
use Rattle.mat_call.specs.GivenShelves.{told_in}
use Rattle.mat_call.proofs.RoomsTold.{written_behind, note_cut, full}
use Rattle.mat_call.proofs.ToldFiles.{missing_rose, always_told}
use Rattle.mat_call.proofs.calls.call_into.Goals as goal

pub returns : goal.returns
returns g c =
    let files = c.args.files.now in
    let files_now = c.run-status.new.files in
    let asked = asked_by (map string_bytes c.args.words.now) in
    let output = c.run-status.new.out in
    let note = c.run-status.new.notes in
    let within : length output.taken ≤ output.room = c.stays_bounded.ensures.within in
    let note_within : length note.taken ≤ note.room = c.stays_bounded-2.ensures.within in
    let over = λ (is : c.run-status.result ≡ statuses.WriteFault).
    full output.room (length output.taken) c.args.output.now.faults output.faults c.stays_bounded.ensures.full
    (c.run-status.ensures.write_fault is) in
    let written = written_behind (told_in files.files) asked c.args.output.now.room output.room output.taken c.run-status.result within over
    (rw c.requires.output at c.run-status.ensures.written) in
    let text = c.run-status.ensures.noted.0 in
    let noted = note_cut text c.args.note.now.room note.room c.args.note.now.faults note.faults note.taken
    (rw c.requires.note at c.run-status.ensures.noted.2) note_within c.stays_bounded-2.ensures.full in
    let missing = λ (name : List ℕ).
    missing_rose files.files files_now.files files.other_faults files_now.other_faults name (c.run-status.ensures.held name) in
    record {
      bounds = (omega (arith, within, written.room_stays), omega (arith, note_within, noted.room_stays));
      ended = record {
        usage = c.run-status.ensures.usage;
        read_fault = λ is. let fault = c.run-status.ensures.read_fault is in (fault.0, fault.1, missing fault.0 fault.2);
        status_of_outcome = c.run-status.ensures.status (always_told files.files asked);
        written = written.written;
        noted = (text, c.run-status.ensures.noted.1, noted.cut);
      };
    }
