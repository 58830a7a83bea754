use Rattle.std.proofs.Common.{sym}
use Rattle.mat_sets.proofs.SetTests.{is_set-true}
use Rattle.mat_calls.proofs.meeting.FlagsMatroid.independent.Goals as goal

pub returns : goal.returns
returns c = sym (is_set-true 2 c.args.set.now c.rises.ensures c.requires.below)
