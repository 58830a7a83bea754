use Rattle.mat_desc.proofs.Common.{◌≡◌, ◌++◌, take, names_of, spaced}
use Rattle.mat_desc.proofs.write.lines.put_names_line.Given as goal

-- the keyword stands there, and behind it the names so far
abbrev pub invariant-loop-i : goal.invariant-loop-i
invariant-loop-i l = l.out.items ≡ (l.fn.out.items ++ l.keyword) ++ spaced (take l.i (names_of l.names))
