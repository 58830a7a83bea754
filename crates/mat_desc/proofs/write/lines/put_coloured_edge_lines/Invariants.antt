use Rattle.mat_desc.proofs.Common.{◌≡◌, ◌++◌, ◌∷◌, [], take, text_of, coloured_edge_line, naming}
use Rattle.std.specs.List.{flat_map, zip}
use Rattle.mat_desc.proofs.write.lines.put_coloured_edge_lines.Given as goal

-- the lines of the edges so far stand there
abbrev pub invariant-loop-i : goal.invariant-loop-i
invariant-loop-i l = l.out.items ≡ l.fn.out.items ++ flat_map (λ p. text_of (coloured_edge_line (naming l.names) p ∷ []))
    (take l.i (zip l.edges (zip l.colour_of l.weights)))
