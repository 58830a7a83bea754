use Rattle.mat_witness.proofs.Common.{◌≡◌, true, length, sym, arith, has_own_one}
use Rattle.mat_witness.proofs.OwnOnes.{no_own_one, own_one}
use Rattle.mat_witness.proofs.PassingLists.{below_next, fails_below, passes_below}
use Rattle.mat_witness.proofs.parts.columns.zeros.have_own_ones.Goals as goal

pub returns-then-numbers-i : goal.returns-then-numbers-i
returns-then-numbers-i c dim small =
    let numbers = c.args.numbers.now in
    let i = c.loop-i.i in
    let within = c.loop-i-test.true in
    sym (fails_below (length numbers) (has_own_one dim numbers) i within
    (no_own_one dim numbers i c.ones_of_others.result c.ones_of_others.ensures within (small i 0 within) c.if-numbers-i.true))

pub loop-i-preserved : goal.loop-i-preserved
loop-i-preserved c dim small =
    let numbers = c.args.numbers.now in
    let i = c.loop-i.i in
    let within = c.loop-i-test.true in
    below_next (λ i. has_own_one dim numbers i ≡ true) i (c.loop-i.invariant dim small)
    (own_one dim numbers i c.ones_of_others.result c.ones_of_others.ensures within (small i 0 within) c.if-numbers-i.false)

pub returns : goal.returns
returns c dim small =
    let over = c.loop-i-test.false in
    sym (passes_below (length c.args.numbers.now) (has_own_one dim c.args.numbers.now) (λ i l. c.loop-i.invariant dim small i (omega arith)))
