use Rattle.mat_top.proofs.Common.{refl, inl, err_from_is_err_and}
use Rattle.mat_judge.specs.declared.certified.NotRight.TheVariants as not_right
use Rattle.mat_judge.specs.declared.certified.Uncertified.TheVariants as uncertified
use Rattle.mat_judge.specs.declared.reading.Unread.TheVariants as unread
use Rattle.mat_verify.specs.declared.refusals.NoRung.TheVariants as no_rung
use Rattle.mat_top.proofs.about.text_for.Goals as goal

pub returns-in_err-yes-in-Check-clause-refusal : goal.returns-in_err-yes-in-Check-clause-refusal
returns-in_err-yes-in-Check-clause-refusal g c =
    let p = err_from_is_err_and c.from_residual-in_err-yes-in-Check.result c.from_residual-in_err-yes-in-Check.ensures.1 in
    rw (c.in-Check.is, p.1, p.2) (not_right.Uncertified (uncertified.Unread unread.Memory), refl, tt)

pub returns-in_err-yes-in-Verify-clause-refusal : goal.returns-in_err-yes-in-Verify-clause-refusal
returns-in_err-yes-in-Verify-clause-refusal g c =
    let p = err_from_is_err_and c.from_residual-in_err-yes-in-Verify.result c.from_residual-in_err-yes-in-Verify.ensures.1 in
    rw (c.in-Verify.is, p.1, p.2) (inl (no_rung.Uncertified (uncertified.Unread unread.Memory), refl, tt))
