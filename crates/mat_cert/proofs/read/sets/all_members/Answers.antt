use Rattle.mat_cert.proofs.Common.{◌∙◌, sym, err_from_is_err_and, words_left}
use Rattle.mat_cert.proofs.CountedLast.{members_counted, members_miscounted, members_refused, members_uncounted}
use Rattle.mat_cert.proofs.read.sets.all_members.Goals as goal

pub returns-then-len-many : goal.returns-then-len-many
returns-then-len-many c =
    rw c.fault.ensures (members_miscounted c.args.bound c.args.many (words_left c.args.words) c.in-Ok.set c.in-Ok.ensures
    (λ same. c.if-len-many.true (c.len.ensures.count ∙ same)))

pub returns-else-len-many : goal.returns-else-len-many
returns-else-len-many c =
    members_counted c.args.bound c.args.many (words_left c.args.words) c.in-Ok.set c.in-Ok.ensures
    (sym c.len.ensures.count ∙ c.if-len-many.false)

pub returns-in_err-has_this_many-in-Err : goal.returns-in_err-has_this_many-in-Err
returns-in_err-has_this_many-in-Err c =
    let p = err_from_is_err_and c.from_residual.result c.from_residual.ensures.1 in
    rw (p.1, p.2) (members_uncounted c.args.bound c.args.many (words_left c.args.words) c.in_err-has_this_many-in-Err.field-0.0
    c.in_err-has_this_many-in-Err.ensures)

pub returns-in_ok-has_this_many-in-Err : goal.returns-in_ok-has_this_many-in-Err
returns-in_ok-has_this_many-in-Err c =
    members_refused c.args.bound c.args.many (words_left c.args.words) c.in-Err.refusal c.in_ok-has_this_many-in-Err.field-0
    c.in_ok-has_this_many-in-Err.ensures c.in-Err.ensures
