use Rattle.mat_witness.proofs.Common.{◌≡◌, ◌++◌, map, take, text_of, binary_line}
use Rattle.mat_witness.proofs.text.write_parts.put_binary_lines.Given as goal

-- the lines of the numbers so far stand there
abbrev pub invariant-loop-number : goal.invariant-loop-number
invariant-loop-number l = l.out.items ≡ l.fn.out.items ++ text_of (map (binary_line l.keyword l.digits) (take l.number-index l.numbers))
