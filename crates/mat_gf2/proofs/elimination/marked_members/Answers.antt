use Rattle.mat_gf2.proofs.Common.{◌∙◌, ◌+◌, ◌<◌, sym, subst, length, arith}
use Rattle.mat_gf2.proofs.Markings.{IsMarking, IsMarking-found, IsMarking-passed, IsMarking-end}
use Rattle.mat_gf2.proofs.elimination.marked_members.Goals as goal
use Rattle.mat_gf2.proofs.elimination.marked_members.Goals.{then-tag-place-eq1+in_ok-add, else-tag-place-eq1}

pub loop-place-preserved : goal.loop-place-preserved
loop-place-preserved c =
    let X = c.args.set.now in
    let place = c.loop-place.place in
    let l : place < length X = (let count = c.len-place-end.ensures.count in let test = c.loop-place-test.true in omega arith) in
    elim c.if-tag-place-eq1.branch [
      | then-tag-place-eq1+in_ok-add w ↦ subst (IsMarking c.args.tag X (place + 1)) (sym (w.members-is ∙ w.in_ok-add.ensures.ok.1))
          (IsMarking-found c.args.tag X place _ c.loop-place.members l w.get.ensures.item w.if-tag-place-eq1.true c.loop-place.invariant)
      | else-tag-place-eq1 w ↦ subst (IsMarking c.args.tag X (place + 1)) (sym w.members-is)
          (IsMarking-passed c.args.tag X place c.loop-place.members l w.if-tag-place-eq1.false c.loop-place.invariant)
    ]

pub returns-clause-members : goal.returns-clause-members
returns-clause-members c =
    IsMarking-end c.args.tag c.args.set.now c.loop-place.place c.loop-place.members c.len-place-end.ensures.rises
    (let count = c.len-place-end.ensures.count in let test = c.loop-place-test.false in omega arith) c.loop-place.invariant
