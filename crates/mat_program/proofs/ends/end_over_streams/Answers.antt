use Rattle.mat_program.proofs.ends.end_over_streams.Goals as goal

pub returns-clause-ended : goal.returns-clause-ended
returns-clause-ended g c =
    rw c.in-Ok.is (record {
      file_faults = λ name. c.perform_end.new.files.faults;
      out_faults = c.perform_end.new.out;
      note_faults = c.perform_end.new.notes;
      ended = rw (c.new-files.ensures, c.new-out.ensures, c.new-notes.ensures, c.deref.ensures.value) at c.perform_end.ensures.ended;
    })
