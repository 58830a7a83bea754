use Rattle.mat_calls.specs.FreeLaws.{free_laws}
use Rattle.mat_calls.proofs.FreeTables.{free_table}
use Rattle.mat_calls.proofs.meeting.told_meeting.Goals as goal

pub rows-requires-clause-independent : goal.rows-requires-clause-independent
rows-requires-clause-independent g c κs within = rw c.new.ensures.members (free_laws 2).empty

pub told_searches-requires : goal.told_searches-requires
told_searches-requires g c = free_table c.in_ok-table.table (rw c.new.ensures.members at c.in_ok-table.ensures)
