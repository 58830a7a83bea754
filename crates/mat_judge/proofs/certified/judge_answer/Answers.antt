use Rattle.mat_judge.proofs.Common.{◌≡◌, true, rules, sym, ap, ◌∙◌, certificate_of, instance_of, failure_in}
use Rattle.mat_check.specs.Fitting.{fits}
use Rattle.mat_judge.proofs.Judging.{yes_or_no}
use Rattle.mat_judge.proofs.certified.judge_answer.Goals as goal

pub returns-in-No-clause-refusal : goal.returns-in-No-clause-refusal
returns-in-No-clause-refusal g c =
    let fitting : fits (instance_of c.args.problem.now) (certificate_of c.args.answer.now) ≡ true = search rules in
    let said = c.in_ok-check.ensures in (
      fitting,
      λ right. yes_or_no c.in_ok-check.field-0 c.in-No.reason c.in-No.a c.in-No.b (said.yes.1 right) c.in-No.is,
      sym said.failure ∙ ap failure_in c.in-No.is,
    )
