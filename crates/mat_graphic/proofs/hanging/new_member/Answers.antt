use Rattle.mat_graphic.proofs.Common.{arith}
use Rattle.mat_graphic.proofs.HungTrees.{new_member_is}
use Rattle.mat_graphic.proofs.hanging.new_member.Goals as goal

pub returns : goal.returns
returns c = λ z.
    new_member_is c.args.base.now c.args.next.now c.loop-at.at (let same = c.if-next-base.false in omega arith) c.loop-at.invariant.within
    c.loop-at.invariant.same (λ k l m. c.loop-i.invariant k l (let end = c.loop-i-test.false in omega arith)) z
