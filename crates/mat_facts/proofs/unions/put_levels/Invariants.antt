-- The facts of the levels so far stand behind those that were there.
use Rattle.mat_facts.proofs.Common.{◌≡◌, ◌++◌, flat_map, map, level_facts}
use Rattle.std.proofs.Common.{take}
use Rattle.mat_facts.specs.Views.{facts_of}
use Rattle.mat_facts.proofs.unions.put_levels.Given as goal

abbrev pub invariant-loop-j : goal.invariant-loop-j
invariant-loop-j g l =
    facts_of l.facts.items ≡ facts_of l.initial.facts.items
    ++ flat_map (level_facts (map g.M.Matroid.indep l.matroids) l.joined.weights.now l.joined.parts.now) (take l.j l.levels)
