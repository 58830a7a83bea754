-- The matroids so far allow few of the set.
use Rattle.mat_facts.proofs.Common.{◌≡◌, ◌++◌, map, level_most_facts}
use Rattle.std.proofs.Common.{take}
use Rattle.mat_facts.specs.Views.{facts_of}
use Rattle.mat_facts.proofs.unions.put_each_most.Given as goal

abbrev pub invariant-loop-i : goal.invariant-loop-i
invariant-loop-i g l =
    facts_of l.facts.items ≡ facts_of l.initial.facts.items ++ level_most_facts 0 (take l.i (map g.M.Matroid.indep l.matroids)) l.set
