use Rattle.mat_words.proofs.Common.{arith, ◌∙◌, common_steps}
use Rattle.mat_words.proofs.DigitLemmas.{value_step, counted}
use Rattle.mat_words.proofs.numbers.long_magnitude.Goals as goal

pub loop-c-preserved : goal.loop-c-preserved
loop-c-preserved c = record {
  digits = grind (arith, common_steps);
  value = c.append_digit-n.ensures ∙ value_step c.args.digits.now c.loop-c.c-index c.loop-c.n c.loop-c-test.true c.loop-c.invariant.value;
}

pub returns-clause-some : goal.returns-clause-some
returns-clause-some c = counted c.args.digits.now c.loop-c.c-index c.loop-c.n c.loop-c-test.false (grind (arith, common_steps))
    c.if-digits-lt49.false c.loop-c.invariant.value
