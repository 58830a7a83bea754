-- The counters hold how many elements of the set so far each class has; an element enters if its class is not full.
use Rattle.mat_count.proofs.Common.{◌≡◌, not, length, get_or, replicate, rules, refl, sym, ap, ◌∙◌, arith, None, IfOk-weaker, written_back, AllBelow-at, IsRunning-end, IsLaminarFamily-from_disjoint}
use Rattle.mat_count.proofs.CountedRuns.{IsCounting-start, IsCounting-kept, counter-small}
use Rattle.mat_count.proofs.PartitionRuns.{entry_known, partition_run-passed, partition_run-entered}
use Rattle.mat_count.proofs.partition.run_by_classes.Goals as goal
use Rattle.mat_count.proofs.partition.run_by_classes.Goals.{then-not-names_full+then-not-contains+in_ok-insert, else-not-names_full, else-not-names_full-via-then-not-names_full+else-not-contains, else-not-names_full-via-else-not-names_full}

pub loop-x-init : goal.loop-x-init
loop-x-init c =
    let made : c.in_ok-numbers.numbers.items ≡ replicate c.len.result 0 = search rules in
    IsCounting-start (length c.args.class_of.now) c.args.classes.now c.args.caps.now c.args.order.now c.new-set.result c.in_ok-numbers.numbers.items
    c.len.result (IsLaminarFamily-from_disjoint c.args.classes.now c.requires.sound.disjoint) c.new-set.ensures made c.len.ensures.count

pub bounds-class_of-x : goal.bounds-class_of-x
bounds-class_of-x c = AllBelow-at (length c.args.class_of.now) c.args.order.now c.loop-x.x-index c.requires.below c.loop-x-test.true

pub names_full-requires-clause-inside : goal.names_full-requires-clause-inside
names_full-requires-clause-inside c =
    let table = c.args.class_of.now in
    let small = AllBelow-at (length table) c.args.order.now c.loop-x.x-index c.requires.below c.loop-x-test.true in
    let long = ap length c.deref.ensures.value ∙ c.loop-x.invariant.counts.long in
    rw long (entry_known (length table) c.args.classes.now table _ small c.requires.table)

pub count-requires-clause-room : goal.count-requires-clause-room
count-requires-clause-room c = λ k l.
    let inside = rw c.deref_mut.ensures.value at l in
    let few = counter-small c.loop-x.invariant k inside in
    rw c.deref_mut.ensures.value (omega arith)

pub loop-x-preserved : goal.loop-x-preserved
loop-x-preserved c =
    let table = c.args.class_of.now in
    let x = get_or c.args.order.now c.loop-x.x-index 0 in
    let small = AllBelow-at (length table) c.args.order.now c.loop-x.x-index c.requires.below c.loop-x-test.true in
    let before = c.loop-x.numbers.items in
    let run = c.loop-x.invariant in
    let asked = rw c.deref.ensures.value at c.names_full.ensures in
    elim c.if-not-names_full.branch [
      | then-not-names_full+then-not-contains+in_ok-insert w ↦ (
          let counted = rw w.deref_mut.ensures.value at w.count.ensures in
          rw w.numbers-is
          (rw (written_back c.loop-x.numbers.len w.count.new.numbers before (w.count.auto.numbers ∙ w.deref_mut.ensures.len))
          (partition_run-entered run c.requires.sound.capped table c.requires.table x small c.loop-x-test.true refl (get_or table x None) refl c.if-not-names_full.set
          w.count.new.numbers (sym asked ∙ w.if-not-names_full.true) (ap not (sym w.contains.ensures ∙ w.if-not-contains.true))
          (w.set-is ∙ w.in_ok-insert.ensures.ok) (w.count.auto.numbers ∙ ap length w.deref_mut.ensures.value) counted)))
      | else-not-names_full w ↦ rw w.numbers-is (elim w.else-not-names_full.branch [
        | else-not-names_full-via-then-not-names_full+else-not-contains v ↦
            IsCounting-kept run x c.if-not-names_full.set c.loop-x-test.true refl (ap not (sym v.contains.ensures ∙ v.if-not-contains.false)) w.set-is
        | else-not-names_full-via-else-not-names_full v ↦
            partition_run-passed run c.requires.sound.capped table c.requires.table x small c.loop-x-test.true refl (get_or table x None) refl c.if-not-names_full.set
            (sym asked ∙ v.if-not-names_full.false) w.set-is
      ])
    ]

pub returns : goal.returns
returns c =
    IfOk-weaker c.from_bits.result _ _ (λ set members. members ∙ IsRunning-end _ _ _ c.loop-x.x-index c.loop-x-test.false c.loop-x.invariant.run)
    c.from_bits.ensures.members
