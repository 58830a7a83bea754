use Rattle.mat_top.proofs.Common.{◌≡◌, ◌++◌, map, take, text_of, cut_line}
use Rattle.mat_top.proofs.cut_lines.put_cut_lines.Given as goal

-- the lines of the sets so far stand there
abbrev pub invariant-loop-cut : goal.invariant-loop-cut
invariant-loop-cut l = l.out.items ≡ l.fn.out.items ++ text_of (map cut_line (take l.cut-index l.cuts))
