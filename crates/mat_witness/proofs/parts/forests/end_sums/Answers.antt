-- Both tables are sums over the edges so far: of ones for the degrees, and of the edges' numbers for the sums. An edge of the set is one of the
-- graph, and its two ends are different places with room for it.
use Rattle.mat_witness.proofs.Common.{length, ap, arith, ends_of}
use Rattle.mat_witness.proofs.SumTables.{fine_before, room_before, table_before, table_none}
use Rattle.mat_witness.proofs.parts.forests.end_sums.Goals as goal

pub loop-i-init : goal.loop-i-init
loop-i-init c = record {
  degree = table_none (λ e. 1) (ends_of c.args.edges.now) c.args.set.now c.len-i.result c.args.vertices c.in_ok-degree.degree.items
      (omega (arith, c.len-i.ensures.count)) (c.in_ok-degree.ensures.items_if_clones_equal (λ y h. h));
  sum = table_none (λ e. e) (ends_of c.args.edges.now) c.args.set.now c.len-i.result c.args.vertices c.in_ok-sum.sum.items
      (omega (arith, c.len-i.ensures.count)) (c.in_ok-sum.ensures.items_if_clones_equal (λ y h. h));
}

pub bounds-edges-e : goal.bounds-edges-e
bounds-edges-e c =
    (fine_before _ c.requires.graph c.requires.set c.get-e.ensures.item c.len-i.ensures.count (omega (arith, c.loop-i-test.true))
    (omega (arith, c.loop-i.auto.i))).below

pub bounds-edges-e-in-loop-i : goal.bounds-edges-e-in-loop-i
bounds-edges-e-in-loop-i c =
    (fine_before _ c.requires.graph c.requires.set c.get-e.ensures.item c.len-i.ensures.count (omega (arith, c.loop-i-test.true))
    (omega (arith, c.loop-i.auto.i))).below

pub add_at-requires-clause-first : goal.add_at-requires-clause-first
add_at-requires-clause-first c =
    let fine = fine_before _ c.requires.graph c.requires.set c.get-e.ensures.item c.len-i.ensures.count (omega (arith, c.loop-i-test.true))
    (omega (arith, c.loop-i.auto.i)) in
    omega (arith, fine.first, ap length c.deref_mut.ensures.value, c.loop-i.invariant.degree.long)

pub add_at-requires-clause-second : goal.add_at-requires-clause-second
add_at-requires-clause-second c =
    let fine = fine_before _ c.requires.graph c.requires.set c.get-e.ensures.item c.len-i.ensures.count (omega (arith, c.loop-i-test.true))
    (omega (arith, c.loop-i.auto.i)) in
    omega (arith, fine.second, ap length c.deref_mut.ensures.value, c.loop-i.invariant.degree.long)

pub add_at-requires-clause-apart : goal.add_at-requires-clause-apart
add_at-requires-clause-apart c =
    (fine_before _ c.requires.graph c.requires.set c.get-e.ensures.item c.len-i.ensures.count (omega (arith, c.loop-i-test.true))
    (omega (arith, c.loop-i.auto.i))).apart

pub add_at-requires-clause-room : goal.add_at-requires-clause-room
add_at-requires-clause-room c =
    room_before _ 1 c.requires.graph c.requires.set c.loop-i.invariant.degree c.deref_mut.ensures.value c.len-i.ensures.count
    (λ e l. omega arith) (omega (arith, c.loop-i-test.true)) (omega (arith, c.loop-i.auto.i)) (omega arith)

pub add_at-requires-in-loop-i-clause-first : goal.add_at-requires-in-loop-i-clause-first
add_at-requires-in-loop-i-clause-first c =
    let fine = fine_before _ c.requires.graph c.requires.set c.get-e.ensures.item c.len-i.ensures.count (omega (arith, c.loop-i-test.true))
    (omega (arith, c.loop-i.auto.i)) in
    omega (arith, fine.first, ap length c.deref_mut-in-loop-i.ensures.value, c.loop-i.invariant.sum.long)

pub add_at-requires-in-loop-i-clause-second : goal.add_at-requires-in-loop-i-clause-second
add_at-requires-in-loop-i-clause-second c =
    let fine = fine_before _ c.requires.graph c.requires.set c.get-e.ensures.item c.len-i.ensures.count (omega (arith, c.loop-i-test.true))
    (omega (arith, c.loop-i.auto.i)) in
    omega (arith, fine.second, ap length c.deref_mut-in-loop-i.ensures.value, c.loop-i.invariant.sum.long)

pub add_at-requires-in-loop-i-clause-apart : goal.add_at-requires-in-loop-i-clause-apart
add_at-requires-in-loop-i-clause-apart c =
    (fine_before _ c.requires.graph c.requires.set c.get-e.ensures.item c.len-i.ensures.count (omega (arith, c.loop-i-test.true))
    (omega (arith, c.loop-i.auto.i))).apart

pub add_at-requires-in-loop-i-clause-room : goal.add_at-requires-in-loop-i-clause-room
add_at-requires-in-loop-i-clause-room c =
    let fine = fine_before _ c.requires.graph c.requires.set c.get-e.ensures.item c.len-i.ensures.count (omega (arith, c.loop-i-test.true))
    (omega (arith, c.loop-i.auto.i)) in
    room_before _ c.get-e.result c.requires.graph c.requires.set c.loop-i.invariant.sum c.deref_mut-in-loop-i.ensures.value
    c.len-i.ensures.count (λ e l. l) (omega (arith, c.loop-i-test.true)) (omega (arith, c.loop-i.auto.i)) fine.small

pub loop-i-preserved : goal.loop-i-preserved
loop-i-preserved c =
    record {
      degree = table_before _ _ c.loop-i.invariant.degree c.get-e.ensures.item c.deref_mut.ensures.value c.loop-i.degree.ok.0 c.add_at.auto.table
          c.add_at.ensures c.len-i.ensures.count (omega (arith, c.loop-i-test.true)) (omega (arith, c.loop-i.auto.i));
      sum = table_before _ _ c.loop-i.invariant.sum c.get-e.ensures.item c.deref_mut-in-loop-i.ensures.value c.loop-i.sum.ok.0
          c.add_at-in-loop-i.auto.table
          c.add_at-in-loop-i.ensures c.len-i.ensures.count (omega (arith, c.loop-i-test.true)) (omega (arith, c.loop-i.auto.i));
    }
