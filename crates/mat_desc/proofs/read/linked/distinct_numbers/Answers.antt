use Rattle.mat_desc.proofs.Common.{◌∙◌, [], sym, err_from_is_err_and, not-true, not-false, distinct_at, words_left}
use Rattle.mat_desc.proofs.DistinctNumbers.{distinct_more, distinct_repeat, distinct_fails, distinct_done}
use Rattle.mat_desc.proofs.read.linked.distinct_numbers.Goals as goal

pub returns-in_err-number : goal.returns-in_err-number
returns-in_err-number c =
    let p = err_from_is_err_and c.from_residual.result c.from_residual.ensures.1 in
    rw (p.1, p.2) (distinct_fails c.args.bound c.args.many c.loop.counter c.loop.taken c.loop.numbers.items (words_left c.loop.rest)
    (distinct_at c.args.bound c.args.many [] (words_left c.args.words)) c.loop.invariant c.in_err-number.field-0.0
    c.loop-test.true c.in_err-number.ensures.value)

pub returns-then-not-branch : goal.returns-then-not-branch
returns-then-not-branch c =
    rw c.fault.ensures
    (distinct_repeat c.args.bound c.args.many c.loop.counter c.loop.taken c.loop.numbers.items (words_left c.loop.rest)
    (distinct_at c.args.bound c.args.many [] (words_left c.args.words)) c.loop.invariant c.in_ok-number.number (words_left c.in_ok-number.after)
    c.loop-test.true c.in_ok-number.ensures.value (not-false _ (sym c.in_ok-add.ensures.ok.0 ∙ c.if-not-branch.true)))

pub loop-preserved : goal.loop-preserved
loop-preserved c =
    rw (c.in_ok-add.ensures.ok.1, c.in_ok-push.ensures.items)
    (distinct_more c.args.bound c.args.many c.loop.counter c.loop.taken c.loop.numbers.items (words_left c.loop.rest)
    (distinct_at c.args.bound c.args.many [] (words_left c.args.words)) c.loop.invariant c.in_ok-number.number (words_left c.in_ok-number.after)
    c.loop-test.true c.in_ok-number.ensures.value (not-true _ (sym c.in_ok-add.ensures.ok.0 ∙ c.if-not-branch.false)))

pub returns : goal.returns
returns c =
    distinct_done c.args.bound c.args.many c.loop.counter c.loop.taken c.loop.numbers.items (words_left c.loop.rest)
    (distinct_at c.args.bound c.args.many [] (words_left c.args.words)) c.loop.invariant c.loop-test.false
