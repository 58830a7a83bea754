-- A vertex of degree one has one edge left, whose number is the sum at it; taking this edge keeps degrees and sums those of the
-- edges left. At the end all edges are taken, leaves first.
use Rattle.mat_witness.proofs.Common.{arith, cond-false, cond-true, eq-eqb, ne_eqb}
use Rattle.mat_witness.proofs.LeafPeeling.{at_leaf, enough_at, peeled_long, peeled_shows, peeling_take}
use Rattle.mat_witness.proofs.parts.forests.leaves_first.Goals as goal

pub overflow_cast-e : goal.overflow_cast-e
overflow_cast-e c =
    let next = at_leaf c.loop-passed.invariant c.loop-passed-test.true c.requires.graph c.requires.set c.index.ensures c.if-index-eq1.true
    c.index-then-index-eq1.ensures in
    omega (arith, next.fine.small)

pub bounds-edges-e : goal.bounds-edges-e
bounds-edges-e c =
    (at_leaf c.loop-passed.invariant c.loop-passed-test.true c.requires.graph c.requires.set c.index.ensures c.if-index-eq1.true
    c.index-then-index-eq1.ensures).fine.below

pub bounds-edges-e-then-index-eq1 : goal.bounds-edges-e-then-index-eq1
bounds-edges-e-then-index-eq1 c =
    (at_leaf c.loop-passed.invariant c.loop-passed-test.true c.requires.graph c.requires.set c.index.ensures c.if-index-eq1.true
    c.index-then-index-eq1.ensures).fine.below

pub take_at-requires-clause-apart : goal.take_at-requires-clause-apart
take_at-requires-clause-apart c =
    (at_leaf c.loop-passed.invariant c.loop-passed-test.true c.requires.graph c.requires.set c.index.ensures c.if-index-eq1.true
    c.index-then-index-eq1.ensures).fine.apart

pub take_at-requires-clause-enough : goal.take_at-requires-clause-enough
take_at-requires-clause-enough c =
    enough_at c.loop-passed.invariant.degrees
    (at_leaf c.loop-passed.invariant c.loop-passed-test.true c.requires.graph c.requires.set c.index.ensures c.if-index-eq1.true
    c.index-then-index-eq1.ensures).leaf c.deref_mut.ensures.value

pub take_at-requires-then-index-eq1-clause-apart : goal.take_at-requires-then-index-eq1-clause-apart
take_at-requires-then-index-eq1-clause-apart c =
    (at_leaf c.loop-passed.invariant c.loop-passed-test.true c.requires.graph c.requires.set c.index.ensures c.if-index-eq1.true
    c.index-then-index-eq1.ensures).fine.apart

pub take_at-requires-then-index-eq1-clause-enough : goal.take_at-requires-then-index-eq1-clause-enough
take_at-requires-then-index-eq1-clause-enough c =
    enough_at c.loop-passed.invariant.sums
    (at_leaf c.loop-passed.invariant c.loop-passed-test.true c.requires.graph c.requires.set c.index.ensures c.if-index-eq1.true
    c.index-then-index-eq1.ensures).leaf c.deref_mut-then-index-eq1.ensures.value

pub loop-passed-preserved-then-first-v : goal.loop-passed-preserved-then-first-v
loop-passed-preserved-then-first-v c =
    peeling_take c.loop-passed.invariant _ _
    (at_leaf c.loop-passed.invariant c.loop-passed-test.true c.requires.graph c.requires.set c.index.ensures c.if-index-eq1.true
    c.index-then-index-eq1.ensures) c.loop-passed-test.true
    c.deref_mut.ensures.value c.loop-passed.sums.degree.ok.0 c.take_at.auto.table c.take_at.ensures
    c.deref_mut-then-index-eq1.ensures.value c.loop-passed.sums.sum.ok.0 c.take_at-then-index-eq1.auto.table c.take_at-then-index-eq1.ensures
    c.in_ok-push.ensures.items (cond-true _ _ _ (eq-eqb _ _ c.if-first-v.true))

pub loop-passed-preserved-else-first-v : goal.loop-passed-preserved-else-first-v
loop-passed-preserved-else-first-v c =
    peeling_take c.loop-passed.invariant _ _
    (at_leaf c.loop-passed.invariant c.loop-passed-test.true c.requires.graph c.requires.set c.index.ensures c.if-index-eq1.true
    c.index-then-index-eq1.ensures) c.loop-passed-test.true
    c.deref_mut.ensures.value c.loop-passed.sums.degree.ok.0 c.take_at.auto.table c.take_at.ensures
    c.deref_mut-then-index-eq1.ensures.value c.loop-passed.sums.sum.ok.0 c.take_at-then-index-eq1.auto.table c.take_at-then-index-eq1.ensures
    c.in_ok-push.ensures.items (cond-false _ _ _ (ne_eqb _ _ c.if-first-v.false))

pub returns-clause-long : goal.returns-clause-long
returns-clause-long c =
    peeled_long c.loop-passed.invariant c.requires.graph c.requires.set c.loop-passed-test.false

pub returns-clause-shows : goal.returns-clause-shows
returns-clause-shows c =
    peeled_shows c.loop-passed.invariant c.requires.graph c.requires.set c.loop-passed-test.false
