use Rattle.mat_count.proofs.Common.{◌<◌, length, sym, ap, ◌∙◌, subst, arith, AllBelow-at, written_back}
use Rattle.mat_count.proofs.PlaceTables.{AllBelow-read, CountsMembers-more, numbers-small}
use Rattle.mat_count.proofs.laminar.members_by_set.Goals as goal

pub count_at-requires-clause-inside : goal.count_at-requires-clause-inside
count_at-requires-clause-inside c =
    let places = c.args.places.now in
    let small = subst (λ x. x < length places) (sym c.get.ensures.item) (AllBelow-at (length places) c.args.set.now c.loop-i.i c.requires.below (omega arith)) in
    AllBelow-read c.requires.table small _ (ap length c.deref_mut.ensures.value ∙ c.loop-i.invariant.long) c.get-in-loop-i.ensures.item

pub count_at-requires-clause-room : goal.count_at-requires-clause-room
count_at-requires-clause-room c = λ k l.
    let inside = rw c.deref_mut.ensures.value at l in
    rw c.deref_mut.ensures.value (omega
    (arith, numbers-small c.args.sets.now c.args.set.now c.loop-i.numbers.items c.loop-i.i k inside c.loop-i.invariant))

pub loop-i-preserved : goal.loop-i-preserved
loop-i-preserved c =
    let sets = c.args.sets.now in
    let places = c.args.places.now in
    let before = c.loop-i.numbers.items in
    let small = subst (λ x. x < length places) (sym c.get.ensures.item) (AllBelow-at (length places) c.args.set.now c.loop-i.i c.requires.below (omega arith)) in
    let counted = rw (c.deref_mut.ensures.value, c.get-in-loop-i.ensures.item) at c.count_at.ensures in
    rw (written_back c.loop-i.numbers.len c.count_at.new.numbers before (c.count_at.auto.numbers ∙ c.deref_mut.ensures.len))
    (CountsMembers-more (length places) sets places c.args.set.now before c.count_at.new.numbers c.loop-i.i c.get.result
    (omega arith) small c.get.ensures.item c.requires.table
    (c.count_at.auto.numbers ∙ ap length c.deref_mut.ensures.value) counted c.loop-i.invariant)
