-- The counters hold how many elements of the set so far each listed set has. An element is added where none of the sets that hold it is full, and
-- then these are counted up.
use Rattle.mat_count.proofs.Common.{◌≡◌, eqb, [], length, get_or, replicate, rules, refl, sym, ap, ◌∙◌, arith, not-false, not-true, written_back, AllBelow-at, is_full}
use Rattle.std.specs.List.{filter}
use Rattle.mat_count.proofs.CountedRuns.{IsCounting-start, IsCounting-repeated, counter-small}
use Rattle.mat_count.proofs.LaminarRuns.{laminar_run-passed, laminar_run-entered}
use Rattle.mat_count.proofs.PlaceTables.{AllBelow-read}
use Rattle.mat_count.proofs.laminar.run_by_places.Goals as goal
use Rattle.mat_count.proofs.laminar.run_by_places.Goals.{then-not-some_full+in_ok-add+then-branch, else-not-some_full, else-not-some_full-via-then-not-some_full+in_ok-add+else-branch, else-not-some_full-via-else-not-some_full}

pub loop-x-init : goal.loop-x-init
loop-x-init c =
    let made : c.in_ok-numbers.numbers.items ≡ replicate c.len.result 0 = search rules in
    IsCounting-start c.args.count c.args.sets.now c.args.caps.now c.args.order.now c.new-set.result c.in_ok-numbers.numbers.items
    c.len.result c.requires.sound.family c.new-set.ensures.members made c.len.ensures.count

pub get-holders-requires : goal.get-holders-requires
get-holders-requires c =
    let small = AllBelow-at c.args.count c.args.order.now c.loop-x.x-index c.requires.below c.loop-x-test.true in
    let entries = c.requires.table.entries in
    omega arith

pub some_full-requires-clause-inside : goal.some_full-requires-clause-inside
some_full-requires-clause-inside c =
    AllBelow-read c.requires.table (AllBelow-at c.args.count c.args.order.now c.loop-x.x-index c.requires.below c.loop-x-test.true) _
    (ap length c.deref.ensures.value ∙ c.loop-x.invariant.counts.long) c.get-holders.ensures.item

pub count_at-requires-clause-inside : goal.count_at-requires-clause-inside
count_at-requires-clause-inside c =
    AllBelow-read c.requires.table (AllBelow-at c.args.count c.args.order.now c.loop-x.x-index c.requires.below c.loop-x-test.true) _
    (ap length c.deref_mut.ensures.value ∙ c.loop-x.invariant.counts.long) c.get-holders.ensures.item

pub count_at-requires-clause-room : goal.count_at-requires-clause-room
count_at-requires-clause-room c = λ k l.
    let inside = rw c.deref_mut.ensures.value at l in
    let few = counter-small c.loop-x.invariant k inside in
    rw c.deref_mut.ensures.value (omega arith)

pub loop-x-preserved : goal.loop-x-preserved
loop-x-preserved c =
    let places = c.args.places.now in
    let x = get_or c.args.order.now c.loop-x.x-index 0 in
    let small = AllBelow-at c.args.count c.args.order.now c.loop-x.x-index c.requires.below c.loop-x-test.true in
    let before = c.loop-x.numbers.items in
    let run = c.loop-x.invariant in
    let full = filter (is_full c.args.caps.now before) (get_or places x []) in
    let asked = rw (c.get-holders.ensures.item, c.deref.ensures.value) at c.some_full.ensures in
    elim c.if-not-some_full.branch [
      | then-not-some_full+in_ok-add+then-branch w ↦ (
          let counted = rw (w.deref_mut.ensures.value, c.get-holders.ensures.item) at w.count_at.ensures in
          rw w.numbers-is
          (rw (written_back c.loop-x.numbers.len w.count_at.new.numbers before (w.count_at.auto.numbers ∙ w.deref_mut.ensures.len))
          (laminar_run-entered run c.requires.sound.capped places c.requires.table x small c.loop-x-test.true refl full c.if-not-some_full.set refl
          w.count_at.new.numbers (not-false (eqb (length full) 0) (sym asked ∙ w.if-not-some_full.true))
          (sym w.in_ok-add.ensures.ok.0 ∙ w.if-branch.true)
          (w.set-is ∙ w.in_ok-add.ensures.ok.1) (w.count_at.auto.numbers ∙ ap length w.deref_mut.ensures.value) counted)))
      | else-not-some_full w ↦ rw w.numbers-is (elim w.else-not-some_full.branch [
        | else-not-some_full-via-then-not-some_full+in_ok-add+else-branch v ↦
            IsCounting-repeated run x c.if-not-some_full.set c.loop-x-test.true refl (sym v.in_ok-add.ensures.ok.0 ∙ v.if-branch.false)
            (w.set-is ∙ v.set-is ∙ v.in_ok-add.ensures.ok.1)
        | else-not-some_full-via-else-not-some_full v ↦
            laminar_run-passed run c.requires.sound.capped places c.requires.table x small c.loop-x-test.true refl full c.if-not-some_full.set refl
            (not-true (eqb (length full) 0) (sym asked ∙ v.if-not-some_full.false)) (w.set-is ∙ v.set-is)
      ])
    ]
