use Rattle.mat_judge.proofs.notes.put_denial.Goals as goal

pub returns-in-BadDescription : goal.returns-in-BadDescription
returns-in-BadDescription g c = rw c.in-BadDescription.is (rw (c.number.ensures, c.name.ensures) at c.put_fault.ensures)

pub returns-in-BadCertificate : goal.returns-in-BadCertificate
returns-in-BadCertificate g c =
    rw c.in-BadCertificate.is (rw (c.number-in-BadCertificate.ensures, c.name-in-BadCertificate.ensures) at c.put_fault-in-BadCertificate.ensures)

pub returns-in-BadWitness : goal.returns-in-BadWitness
returns-in-BadWitness g c =
    rw c.in-BadWitness.is (rw (c.number-in-BadWitness.ensures, c.name-in-BadWitness.ensures) at c.put_fault-in-BadWitness.ensures)

pub returns-in-BadList : goal.returns-in-BadList
returns-in-BadList g c = rw c.in-BadList.is c.put_line-in-BadList.ensures
