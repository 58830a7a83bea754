use Rattle.mat_desc.proofs.Common.{◌≡◌, ◌++◌, ◌∷◌, [], take, text_of, ends_line, naming}
use Rattle.std.specs.List.{flat_map}
use Rattle.mat_desc.proofs.write.lines.put_ends_lines.Given as goal

-- the lines of the edges or arcs so far stand there
abbrev pub invariant-loop-ends : goal.invariant-loop-ends
invariant-loop-ends l = l.out.items ≡ l.fn.out.items ++ flat_map (λ e. text_of (ends_line (naming l.names) l.keyword e ∷ []))
    (take l.ends-index l.pairs)
