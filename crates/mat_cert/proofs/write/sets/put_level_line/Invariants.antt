use Rattle.mat_cert.proofs.Common.{◌≡◌, ◌++◌, ◌∷◌, codes, pos, take, numeral, weight_word}
use Rattle.std.specs.List.{flat_map}
use Rattle.mat_cert.proofs.write.sets.put_level_line.Given as goal

-- the keyword and the weight stand there, and behind them the members so far
abbrev pub invariant-loop-x : goal.invariant-loop-x
invariant-loop-x l =
    l.out.items ≡ ((l.fn.out.items ++ codes "level ") ++ weight_word l.fn.weight) ++ flat_map (λ x. 32 ∷ numeral (pos x)) (take l.x-index l.members)
