-- Each word adds a number behind those so far; a fault of a word is the fault of the whole list.
use Rattle.mat_witness.proofs.Common.{◌∙◌, sym, length, err_from_is_err_and, parts_left, words_left, repeat_at, with_front, some_left, none_left, told_again, told_fails, refusal_of, kind_of, below_at}
use Rattle.mat_words.specs.Reading as any_text
use Rattle.mat_witness.proofs.WordRows.{all_done, all_fail, all_more, all_shorter}
use Rattle.mat_witness.proofs.text.read_parts.all_numbers.Goals as goal

pub returns-in_err-number : goal.returns-in_err-number
returns-in_err-number c =
    let p = err_from_is_err_and c.from_residual.result c.from_residual.ensures.1 in
    rw (p.1, p.2) (all_fail c.args.bound (refusal_of c.in_err-number.field-0.0) c.loop-rest.numbers.items (words_left c.loop-rest.rest)
    (with_front c.args.front.items (repeat_at (below_at c.args.bound) (length (parts_left c.args.words.left)) (words_left c.args.words)))
    (some_left c.loop-rest.rest.left (sym c.is_some.ensures ∙ c.loop-rest-test.true))
    (told_fails kind_of (any_text.below_at c.args.bound (words_left c.loop-rest.rest)) c.in_err-number.field-0.0 c.in_err-number.ensures.value)
    c.loop-rest.invariant)

pub loop-rest-smaller : goal.loop-rest-smaller
loop-rest-smaller c =
    all_shorter c.args.bound (words_left c.loop-rest.rest) c.in_ok-number.number (words_left c.in_ok-number.after)
    (told_again kind_of (any_text.below_at c.args.bound (words_left c.loop-rest.rest)) (c.in_ok-number.number, words_left c.in_ok-number.after)
    c.in_ok-number.ensures.value)

pub loop-rest-preserved : goal.loop-rest-preserved
loop-rest-preserved c =
    rw c.in_ok-push.ensures.items (all_more c.args.bound c.loop-rest.numbers.items (words_left c.loop-rest.rest) c.in_ok-number.number
    (words_left c.in_ok-number.after)
    (with_front c.args.front.items (repeat_at (below_at c.args.bound) (length (parts_left c.args.words.left)) (words_left c.args.words)))
    (told_again kind_of (any_text.below_at c.args.bound (words_left c.loop-rest.rest)) (c.in_ok-number.number, words_left c.in_ok-number.after)
    c.in_ok-number.ensures.value)
    c.loop-rest.invariant)

pub returns : goal.returns
returns c =
    all_done c.args.bound c.loop-rest.numbers.items (words_left c.loop-rest.rest)
    (with_front c.args.front.items (repeat_at (below_at c.args.bound) (length (parts_left c.args.words.left)) (words_left c.args.words)))
    (none_left c.loop-rest.rest.left (sym c.is_some.ensures ∙ c.loop-rest-test.false)) c.loop-rest.invariant
