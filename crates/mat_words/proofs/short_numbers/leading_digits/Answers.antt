use Rattle.mat_words.proofs.Common.{◌-◌, ◌*◌, ◌+◌, ap, arith, get_or, sym, ◌∙◌, common_steps}
use Rattle.mat_words.proofs.DigitLemmas.{digit_fits, short_value, value_more}
use Rattle.mat_words.proofs.short_numbers.leading_digits.Goals as goal

pub overflow_mul-n : goal.overflow_mul-n
overflow_mul-n c =
    let fits = digit_fits c.loop-i.n 0 c.loop-i.i c.loop-i.invariant.small (omega (arith, c.loop-i-test.true, c.min-most.ensures)) (omega arith) in
    omega (arith, fits.1)

pub overflow_add-n : goal.overflow_add-n
overflow_add-n c =
    let digit = get_or c.args.bytes.now c.loop-i.i 0 - 48 in
    let fits = digit_fits c.loop-i.n digit c.loop-i.i c.loop-i.invariant.small (omega (arith, c.loop-i-test.true, c.min-most.ensures))
    (grind (arith, common_steps)) in
    omega (arith, fits.1)

pub loop-i-preserved : goal.loop-i-preserved
loop-i-preserved c =
    let digits = c.args.bytes.now in
    let i = c.loop-i.i in
    record {
      digits = grind (arith, common_steps);
      value = ap (λ v. v * 10 + (get_or digits i 0 - 48)) c.loop-i.invariant.value ∙ sym (value_more digits i (omega (arith, c.loop-i-test.true, c.min-most.ensures)));
      small = (digit_fits c.loop-i.n (get_or digits i 0 - 48) i c.loop-i.invariant.small (omega (arith, c.loop-i-test.true, c.min-most.ensures))
          (grind (arith, common_steps))).0;
    }

pub returns-clause-short : goal.returns-clause-short
returns-clause-short c = short_value c.loop-i.n c.loop-i.i c.loop-i.invariant.small (omega (arith, c.min-most.ensures, c.loop-i.auto.i-end))

pub returns-then-bytes-i-lt48-clause-short : goal.returns-then-bytes-i-lt48-clause-short
returns-then-bytes-i-lt48-clause-short c =
    short_value c.loop-i.n c.loop-i.i c.loop-i.invariant.small (omega (arith, c.min-most.ensures, c.loop-i.auto.i-end))
