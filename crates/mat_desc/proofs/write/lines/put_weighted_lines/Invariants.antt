use Rattle.mat_desc.proofs.Common.{◌≡◌, ◌++◌, ◌∷◌, [], take, text_of, weighted_line, naming}
use Rattle.std.specs.List.{flat_map, zip}
use Rattle.mat_desc.proofs.write.lines.put_weighted_lines.Given as goal

-- the lines of the pairs so far stand there
abbrev pub invariant-loop-i : goal.invariant-loop-i
invariant-loop-i l = l.out.items ≡ l.fn.out.items ++ flat_map (λ p. text_of (weighted_line (naming l.names) l.keyword p ∷ []))
    (take l.i (zip l.pairs l.weights))
