use Rattle.mat_witness.proofs.Common.{err_from_is_err_and, words_left, repeat_at, repeat_more, repeat_done, repeat_refused, told_again, told_fails, refusal_of, kind_of, below_at}
use Rattle.mat_words.specs.Reading as any_text
use Rattle.mat_witness.proofs.text.read_parts.next_numbers.Goals as goal

pub returns-in_err-number : goal.returns-in_err-number
returns-in_err-number c =
    let reader = below_at c.args.bound in
    let p = err_from_is_err_and c.from_residual.result c.from_residual.ensures.1 in
    rw (p.1, p.2) (repeat_refused reader (refusal_of c.in_err-number.field-0.0) c.loop.numbers.items c.args.many c.loop.counter (words_left c.loop.rest)
    (repeat_at reader c.args.many (words_left c.args.words)) c.loop-test.true (told_fails kind_of (any_text.below_at c.args.bound (words_left c.loop.rest)) c.in_err-number.field-0.0 c.in_err-number.ensures.value) c.loop.invariant)

pub loop-preserved : goal.loop-preserved
loop-preserved c =
    let reader = below_at c.args.bound in
    rw c.in_ok-push.ensures.items (repeat_more reader c.loop.numbers.items c.args.many c.loop.counter (words_left c.loop.rest)
    c.in_ok-number.number (words_left c.in_ok-number.after)
    (repeat_at reader c.args.many (words_left c.args.words)) c.loop-test.true (told_again kind_of (any_text.below_at c.args.bound (words_left c.loop.rest)) (c.in_ok-number.number, words_left c.in_ok-number.after) c.in_ok-number.ensures.value) c.loop.invariant)

pub returns : goal.returns
returns c =
    let reader = below_at c.args.bound in
    repeat_done reader c.loop.numbers.items c.args.many c.loop.counter (words_left c.loop.rest)
    (repeat_at reader c.args.many (words_left c.args.words)) c.loop-test.false c.loop.invariant
