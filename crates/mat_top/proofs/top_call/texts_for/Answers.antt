use Rattle.mat_top.proofs.Common.{err_from_is_err_and}
use Rattle.mat_top.proofs.top_call.texts_for.Goals as goal

pub returns-in_err-text-in-About-clause-refusal : goal.returns-in_err-text-in-About-clause-refusal
returns-in_err-text-in-About-clause-refusal g c =
    let p = err_from_is_err_and c.from_residual.result c.from_residual.ensures.1 in
    rw (c.in-About.is, p.1, p.2) c.in_err-text-in-About.ensures.refusal
