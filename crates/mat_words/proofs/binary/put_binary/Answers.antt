use Rattle.mat_words.proofs.Common.{◌++◌, arith, rules, err_from_is_err_and, binary}
use Rattle.mat_words.proofs.BinaryLaws.{digit_written, digits_written, front_of_digits}
use Rattle.mat_words.proofs.binary.put_binary.Goals as goal

pub loop-place-preserved : goal.loop-place-preserved
loop-place-preserved c =
    let whole = c.args.out.now.items ++ binary c.args.digits c.args.number in
    rw (c.in_ok-push.ensures.items, c.binary_digit.ensures)
    (digit_written c.loop-place.out.items c.loop-place.place c.args.number whole c.loop-place-test.true c.loop-place.invariant)

pub returns-clause-ok : goal.returns-clause-ok
returns-clause-ok c = digits_written c.loop-place.out.items c.loop-place.place c.args.number _ (search rules) c.loop-place.invariant

pub returns-in_err-push-clause-err : goal.returns-in_err-push-clause-err
returns-in_err-push-clause-err c =
    let p = err_from_is_err_and c.from_residual.result c.from_residual.ensures.1 in
    rw p.1 (front_of_digits c.args.out.now.items c.loop-place.out.items _ c.loop-place.place c.args.digits c.args.number
    (omega (arith, c.loop-place.auto.place)) c.in_err-push.ensures.items c.loop-place.invariant)
