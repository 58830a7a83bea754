use Rattle.mat_desc.proofs.Common.{◌≡◌, ◌++◌, ◌∷◌, [], take, codes, listing_line, text_of, naming}
use Rattle.std.specs.List.{flat_map}
use Rattle.mat_desc.proofs.write.lines.put_family_lines.Given as goal

-- the lines of the sets so far stand there
abbrev pub invariant-loop-set : goal.invariant-loop-set
invariant-loop-set l = l.out.items ≡ l.fn.out.items ++ flat_map (λ set. text_of (listing_line (naming l.names) (codes "set") set ∷ []))
    (take l.set-index l.family)
