use Rattle.mat_witness.proofs.Common.{◌≡◌, ◌++◌, take, text_of, tree_of, bound_part}
use Rattle.std.specs.List.{flat_map}
use Rattle.mat_witness.proofs.PartTexts.{viewed_lines}
use Rattle.mat_witness.proofs.text.write_parts.put_bounds.Given as goal

-- the lines of the bounds so far stand there
abbrev pub invariant-loop-bound : goal.invariant-loop-bound
invariant-loop-bound l =
    l.out.items ≡ l.fn.out.items ++ text_of (flat_map (viewed_lines bound_part (tree_of l.matroid)) (take l.bound-index l.bounds))
