use Rattle.mat_gf2.proofs.Markings.{IsMarking}
use Rattle.mat_gf2.proofs.elimination.marked_members.Given as goal

abbrev pub invariant-loop-place : goal.invariant-loop-place
invariant-loop-place l = IsMarking l.tag l.set l.place l.members
