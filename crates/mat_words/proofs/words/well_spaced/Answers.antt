use Rattle.mat_words.proofs.Common.{arith, common_steps}
use Rattle.mat_words.proofs.WordLemmas.{stops_at_space, stops_at_other, at_line_end}
use Rattle.mat_words.proofs.words.well_spaced.Goals as goal

pub returns-then-at_start : goal.returns-then-at_start
returns-then-at_start c = grind (arith, stops_at_space, c.loop-b.invariant)

pub returns-then-b-lt33 : goal.returns-then-b-lt33
returns-then-b-lt33 c = stops_at_other c.args.line.now c.loop-b.b-index c.loop-b.at_start c.loop-b-test.true c.if-b-eq32.false
    (grind (arith, common_steps)) c.loop-b.invariant

pub returns-then-not-at_start : goal.returns-then-not-at_start
returns-then-not-at_start c = grind (arith, at_line_end c.args.line.now c.loop-b.b-index c.loop-b.at_start c.loop-b-test.false c.loop-b.invariant)

pub returns-else-not-at_start : goal.returns-else-not-at_start
returns-else-not-at_start c = grind (arith, at_line_end c.args.line.now c.loop-b.b-index c.loop-b.at_start c.loop-b-test.false c.loop-b.invariant)
