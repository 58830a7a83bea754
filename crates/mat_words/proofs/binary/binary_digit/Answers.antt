use Rattle.mat_words.proofs.Common.{◌+◌, ap, sym, bit_at_above, shr_and_one}
use Rattle.mat_words.proofs.binary.binary_digit.Goals as goal

pub returns-then-place-ge128 : goal.returns-then-place-ge128
returns-then-place-ge128 c = ap (λ b. 48 + b) (sym (bit_at_above c.args.number 128 c.args.place c.ranges.number.fits c.if-place-ge128.true))

pub returns : goal.returns
returns c = ap (λ b. 48 + b) (shr_and_one c.args.number c.args.place)
