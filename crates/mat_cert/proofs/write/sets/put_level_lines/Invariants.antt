use Rattle.mat_cert.proofs.Common.{◌≡◌, ◌++◌, map, take, text_of, level_line}
use Rattle.mat_cert.proofs.write.sets.put_level_lines.Given as goal

-- the lines of the levels so far stand there
abbrev pub invariant-loop-level : goal.invariant-loop-level
invariant-loop-level l = l.out.items ≡ l.fn.out.items ++ text_of (map level_line (take l.level-index l.levels))
