use mir.Syntax.{w128}
use Rattle.mat_cuts.proofs.Common.{◌≡◌, ◌<◌, ◌∙◌, length, pos, sym, arith, to_z, of_z, ints, to_z-of_z, get_or_default, ends_of, enters}
use Rattle.mat_cuts.proofs.Adding.{IsAdding-skip, IsAdding-take}
use Rattle.mat_cuts.proofs.checking.add_at_entering.Goals as goal
use Rattle.mat_cuts.proofs.checking.add_at_entering.Goals.{then-is_entering, else-is_entering}

pub loop-a-preserved : goal.loop-a-preserved
loop-a-preserved c =
    let test = enters (ends_of c.args.arcs.now) c.args.set.now in
    let before = c.args.paid.now.items in
    let after = c.loop-a.paid.items in
    let a = c.loop-a.a in
    let fits : to_z w128 (of_z w128 c.args.weight) ≡ c.args.weight = to_z-of_z w128 c.args.weight c.ranges.weight in
    let inside : a < length after = (let t = c.loop-a-test.true in let long = c.requires.long in let same = c.loop-a.invariant.added.long in omega arith) in
    elim c.if-is_entering.branch [
      | then-is_entering w ↦ rw w.paid-is (IsAdding-take test _ before a after _ (sym w.if-is_entering.ensures) inside
          (let read = w.index_mut.ensures.value ∙ get_or_default after a w.index_mut.result.now (pos 0) inside in
          let was = c.loop-a.invariant.rest a (omega arith) in let room = c.requires.room a c.loop-a-test.true in let small = c.requires.small in
          omega (arith, ints)) c.loop-a.invariant)
      | else-is_entering w ↦ rw w.paid-is (IsAdding-skip test _ before a after (sym w.if-is_entering.ensures) c.loop-a.invariant)
    ]
