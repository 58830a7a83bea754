use Rattle.mat_witness.proofs.Common.{◌≡◌, ◌++◌, codes, map, take, text_of, members_line}
use Rattle.mat_witness.proofs.text.write_parts.put_path_lines.Given as goal

-- the lines of the paths so far stand there
abbrev pub invariant-loop-path : goal.invariant-loop-path
invariant-loop-path l = l.out.items ≡ l.fn.out.items ++ text_of (map (members_line (codes "path")) (take l.path-index l.paths))
