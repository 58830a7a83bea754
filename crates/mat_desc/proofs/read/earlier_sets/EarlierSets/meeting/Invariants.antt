use Rattle.mat_desc.proofs.Common.{take, AreMeeting}
use Rattle.mat_desc.proofs.read.earlier_sets.EarlierSets.meeting.Given as goal

abbrev pub invariant-loop-x : goal.invariant-loop-x
invariant-loop-x l = AreMeeting l.self-inside.sets.items (take l.x-index l.next) l.places
