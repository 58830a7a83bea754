use Rattle.mat_desc.proofs.Common.{◌-◌, length}
use Rattle.mat_desc.proofs.MeetingSets.{NoneBefore}
use Rattle.mat_desc.proofs.read.earlier_sets.EarlierSets.crosses_meeting.Given as goal

abbrev pub invariant-loop-place : goal.invariant-loop-place
invariant-loop-place l = NoneBefore l.self-inside.sets.items l.next l.from

abbrev pub decreases-loop-place : goal.decreases-loop-place
decreases-loop-place l = length l.self-inside.sets.items - l.from
