-- The facts of the sizes so far stand behind those that were there.
use Rattle.mat_facts.proofs.Common.{◌≡◌, ◌++◌, sizes_facts, whole_facts}
use Rattle.std.proofs.Common.{take}
use Rattle.mat_facts.specs.Views.{facts_of, is_told}
use Rattle.mat_facts.proofs.sizes.put_plain_rungs.Given as goal

abbrev pub invariant-loop-k : goal.invariant-loop-k
invariant-loop-k l =
    facts_of l.facts.items ≡ facts_of l.initial.facts.items ++ sizes_facts (is_told l.told) (whole_facts l.weights) 0 (take l.k l.rungs)
