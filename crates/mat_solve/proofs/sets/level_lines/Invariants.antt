use Rattle.mat_solve.proofs.Common.{◌≡◌, map, level_of}
use Rattle.mat_solve.proofs.sets.level_lines.Given as goal

abbrev pub invariant-loop-level : goal.invariant-loop-level
invariant-loop-level l = map level_of l.lines.items ≡ l.yielded
