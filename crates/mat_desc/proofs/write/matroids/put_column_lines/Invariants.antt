use Rattle.mat_desc.proofs.Common.{◌≡◌, ◌++◌, ◌∷◌, [], take, text_of, column_line}
use Rattle.std.specs.List.{flat_map}
use Rattle.mat_desc.proofs.write.matroids.put_column_lines.Given as goal

-- the lines of the columns so far stand there
abbrev pub invariant-loop-column : goal.invariant-loop-column
invariant-loop-column l = l.out.items ≡ l.fn.out.items ++ flat_map (λ z. text_of (column_line l.dim z ∷ [])) (take l.column-index l.columns)
