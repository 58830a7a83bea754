use Rattle.mat_top.proofs.Common.{◌≡◌, ◌++◌, ◌∷◌, codes, pos, take, numeral}
use Rattle.std.specs.List.{flat_map}
use Rattle.mat_top.proofs.cut_lines.put_cut_line.Given as goal

-- the keyword and the weight stand there, and behind them the members so far
abbrev pub invariant-loop-v : goal.invariant-loop-v
invariant-loop-v l =
    l.out.items ≡ ((l.fn.out.items ++ codes "cut ") ++ numeral l.cut.weight) ++ flat_map (λ v. 32 ∷ numeral (pos v)) (take l.v-index l.members)
