use Rattle.mat_words.proofs.Common.{◌-◌, ◌*◌, ◌+◌, ap, arith, get_or, sym, ◌∙◌, common_steps}
use Rattle.mat_words.proofs.DigitLemmas.{counted_short, digit_fits, value_more}
use Rattle.mat_words.proofs.numbers.short_magnitude.Goals as goal

pub overflow_mul-n : goal.overflow_mul-n
overflow_mul-n c =
    let i = c.loop-c.c-index in
    let fits = digit_fits c.loop-c.n 0 i c.loop-c.invariant.small (let l = c.loop-c-test.true in let short = c.requires in omega arith) (omega arith) in
    omega (arith, fits.1)

pub overflow_add-n : goal.overflow_add-n
overflow_add-n c =
    let i = c.loop-c.c-index in
    let fits = digit_fits c.loop-c.n (get_or c.args.digits.now i 0 - 48) i c.loop-c.invariant.small
    (let l = c.loop-c-test.true in let short = c.requires in omega arith) (grind (arith, common_steps)) in
    omega (arith, fits.1)

pub loop-c-preserved : goal.loop-c-preserved
loop-c-preserved c =
    let digits = c.args.digits.now in
    let i = c.loop-c.c-index in
    record {
      digits = grind (arith, common_steps);
      value = ap (λ v. v * 10 + (get_or digits i 0 - 48)) c.loop-c.invariant.value ∙ sym (value_more digits i c.loop-c-test.true);
      small = (digit_fits c.loop-c.n (get_or digits i 0 - 48) i c.loop-c.invariant.small (let l = c.loop-c-test.true in let short = c.requires in omega arith)
          (grind (arith, common_steps))).0;
    }

pub returns-clause-some : goal.returns-clause-some
returns-clause-some c = counted_short c.args.digits.now c.loop-c.c-index c.loop-c.n c.loop-c-test.false (grind (arith, common_steps))
    c.if-digits-lt49.false c.loop-c.invariant.value
