use Rattle.mat_witness.proofs.Common.{length, sym, ◌∙◌, arith, AllBelow-at}
use Rattle.mat_witness.proofs.PassingLists.{fails_below, passes_below}
use Rattle.mat_witness.proofs.parts.columns.probes.tells_member.Goals as goal

pub bounds-columns-set : goal.bounds-columns-set
bounds-columns-set c = AllBelow-at (length c.args.columns.now) c.args.set.now c.loop-j.j c.requires c.loop-j-test.true

pub returns-then-not-meets_rightly : goal.returns-then-not-meets_rightly
returns-then-not-meets_rightly c =
    sym (fails_below (length c.args.set.now) _ c.loop-j.j c.loop-j-test.true (sym c.meets_rightly.ensures ∙ c.if-not-meets_rightly.true))

pub returns : goal.returns
returns c =
    let over = c.loop-j-test.false in
    sym (passes_below (length c.args.set.now) _ (λ j l. c.loop-j.invariant j (omega arith)))
