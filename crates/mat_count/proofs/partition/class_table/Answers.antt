use Rattle.mat_count.proofs.Common.{length, ap, ◌∙◌, arith, written_back}
use Rattle.mat_count.proofs.ClassTables.{IsClassTable-more}
use Rattle.mat_count.proofs.partition.class_table.Goals as goal

pub loop-place-preserved : goal.loop-place-preserved
loop-place-preserved c =
    let entered = rw (c.deref_mut.ensures.value, c.get.ensures.item) at c.enter.ensures in
    rw (written_back c.loop-place.class_of.len c.enter.new.class_of c.loop-place.class_of.items (c.enter.auto.class_of ∙ c.deref_mut.ensures.len))
    (IsClassTable-more c.args.count c.args.classes.now c.loop-place.class_of.items c.enter.new.class_of c.loop-place.place
    (omega arith) c.requires.disjoint c.loop-place.invariant (c.enter.auto.class_of ∙ ap length c.deref_mut.ensures.value) entered)
