use Rattle.mat_judge.proofs.notes.put_note.Goals as goal

pub returns-in-WriteFault : goal.returns-in-WriteFault
returns-in-WriteFault g c = rw c.in-WriteFault.is c.put_text-in-WriteFault.ensures
