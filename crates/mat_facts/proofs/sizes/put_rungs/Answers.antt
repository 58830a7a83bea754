use Rattle.mat_facts.proofs.Common.{rung_facts}
use Rattle.mat_facts.specs.Views.{facts_of, is_told}
use Rattle.mat_facts.proofs.PutFacts.{sizes_next}
use Rattle.mat_facts.proofs.sizes.put_rungs.Goals as goal

pub loop-k-preserved : goal.loop-k-preserved
loop-k-preserved c =
    sizes_next (is_told c.args.told) rung_facts _ (facts_of c.loop-k.facts.items) _ c.args.rungs.now c.loop-k.k c.index-rungs-k.result c.holds.result
    c.loop-k-test.true c.holds.ensures c.index-rungs-k.is c.loop-k.invariant c.in_ok-put_rung_if.ensures
