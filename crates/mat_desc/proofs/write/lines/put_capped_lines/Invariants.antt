use Rattle.mat_desc.proofs.Common.{◌≡◌, ◌++◌, ◌∷◌, [], take, text_of, capped_line, naming}
use Rattle.std.specs.List.{flat_map, zip}
use Rattle.mat_desc.proofs.write.lines.put_capped_lines.Given as goal

-- the lines of the sets so far stand there
abbrev pub invariant-loop-i : goal.invariant-loop-i
invariant-loop-i l = l.out.items ≡ l.fn.out.items ++ flat_map (λ p. text_of (capped_line (naming l.names) l.keyword p ∷ []))
    (take l.i (zip l.sets l.caps))
