use Rattle.mat_count.proofs.Common.{ap, arith, length, ◌<◌, AllBelow-at}
use Rattle.mat_count.proofs.ClassTables.{CountsMembers-named, CountsMembers-free, named-inside, number-small}
use Rattle.mat_count.proofs.partition.members_by_class.Goals as goal
use Rattle.mat_count.proofs.partition.members_by_class.Goals.{in-Some, in_default}

pub overflow_add-index_mut : goal.overflow_add-index_mut
overflow_add-index_mut c =
    let classes = c.args.classes.now in
    let table = c.args.class_of.now in
    let set = c.args.set.now in
    let known : c.get.result < length table =
    omega (arith, c.get.ensures.item, AllBelow-at (length table) set c.loop-i.i c.requires.below (omega arith)) in
    let inside = named-inside (length table) classes table c.get.result c.in-Some.place known c.requires.table c.in-Some.is in
    let small = number-small classes set c.loop-i.numbers.items c.loop-i.i c.in-Some.place c.index_mut.result.now inside c.index_mut.ensures.value
    c.loop-i.invariant in
    omega arith

pub loop-i-preserved : goal.loop-i-preserved
loop-i-preserved c =
    let classes = c.args.classes.now in
    let table = c.args.class_of.now in
    let set = c.args.set.now in
    elim c.match-class_of-get.branch [
      | in-Some w ↦
          CountsMembers-named (length table) classes table set c.loop-i.numbers.items c.match-class_of-get.numbers.items c.loop-i.i
          c.get.result w.in-Some.place w.index_mut.result.now (omega arith) c.requires.below c.get.ensures.item c.requires.table
          w.in-Some.is w.index_mut.ensures.value
          (ap (λ v. v.items) w.numbers-is) c.loop-i.invariant
      | in_default w ↦ rw w.numbers-is (CountsMembers-free (length table) classes table set c.loop-i.numbers.items c.loop-i.i c.get.result
          (omega arith) c.requires.below c.get.ensures.item c.requires.table w.in_default.not-Some c.loop-i.invariant)
    ]
