use Rattle.mat_witness.proofs.Common.{sym, subst, AreOnesOfOthers}
use Rattle.mat_witness.proofs.OwnOnes.{AreOnesOfOthers-own, AreOnesOfOthers-more}
use Rattle.mat_witness.proofs.parts.columns.zeros.ones_of_others.Goals as goal
use Rattle.mat_witness.proofs.parts.columns.zeros.ones_of_others.Goals.{then-j-place, else-j-place}

pub loop-j-preserved : goal.loop-j-preserved
loop-j-preserved c =
    let numbers = c.args.numbers.now in
    let place = c.args.place in
    let j = c.loop-j.j in
    elim c.if-j-place.branch [
      | then-j-place w ↦ subst (AreOnesOfOthers numbers place _) (sym w.ones-is)
          (AreOnesOfOthers-more numbers place j c.loop-j.ones c.loop-j.invariant w.if-j-place.true)
      | else-j-place w ↦ subst (AreOnesOfOthers numbers place _) (sym w.ones-is)
          (AreOnesOfOthers-own numbers place j c.loop-j.ones c.loop-j.invariant w.if-j-place.false)
    ]
