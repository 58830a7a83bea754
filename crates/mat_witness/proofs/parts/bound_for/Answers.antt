use Rattle.mat_witness.proofs.CountedParts.{disjoint_is_laminar}
use Rattle.mat_witness.proofs.parts.bound_for.Goals as goal

-- classes that share no member are a laminar family
pub filled_bound-requires-clause-sound : goal.filled_bound-requires-clause-sound
filled_bound-requires-clause-sound c =
    let partition = c.in-Partition.partition in
    let witnessed = rw c.in-Partition.is at c.requires.witnessed in
    rw (c.count.ensures, c.classes.ensures, c.caps.ensures)
    (disjoint_is_laminar partition.count partition.classes partition.caps witnessed.sound)
