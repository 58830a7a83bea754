use Rattle.mat_cert.proofs.Common.{◌∙◌, sym, err_from_is_err_and, words_left, told_fails, none_left, some_left, largest_number, neg_ℤ, pos, kind_of}
use Rattle.mat_words.specs.Reading as any_text
use Rattle.mat_cert.proofs.CountedLast.{weights_alone, weights_followed, weights_refused, weights_uncounted}
use Rattle.mat_cert.proofs.read.lines.all_weights.Goals as goal

pub returns-then-is_some : goal.returns-then-is_some
returns-then-is_some c =
    rw c.fault.ensures (weights_followed c.args.count (words_left c.args.words) c.in-Ok.weights.items (words_left c.in-Ok.after) c.in-Ok.ensures
    (some_left c.in-Ok.after.left (sym c.is_some.ensures ∙ c.if-is_some.true)))

pub returns-else-is_some : goal.returns-else-is_some
returns-else-is_some c =
    rw c.new.ensures (weights_alone c.args.count (words_left c.args.words) c.in-Ok.weights.items (words_left c.in-Ok.after) c.in-Ok.ensures
    (none_left c.in-Ok.after.left (sym c.is_some.ensures ∙ c.if-is_some.false)))

pub returns-in_err-has_this_many-in-Err : goal.returns-in_err-has_this_many-in-Err
returns-in_err-has_this_many-in-Err c =
    let p = err_from_is_err_and c.from_residual.result c.from_residual.ensures.1 in
    rw (p.1, p.2) (weights_uncounted c.args.count (words_left c.args.words) c.in_err-has_this_many-in-Err.field-0.0
    c.in_err-has_this_many-in-Err.ensures)

pub returns-in_ok-has_this_many-in-Err : goal.returns-in_ok-has_this_many-in-Err
returns-in_ok-has_this_many-in-Err c =
    rw c.from.ensures (weights_refused c.args.count (words_left c.args.words) _ c.in_ok-has_this_many-in-Err.field-0
    c.in_ok-has_this_many-in-Err.ensures
    (told_fails kind_of (any_text.weights_at (neg_ℤ (pos largest_number)) (pos largest_number) c.args.count (words_left c.args.words))
    c.in-Err.refusal c.in-Err.ensures))
