use Rattle.mat_verify.proofs.Common.{IfErr-weaker, IfOk-weaker, IfSome, certificate_of, instance_of, if_told}
use Rattle.mat_verify.proofs.Unwitnessed.{refused_by}
use Rattle.mat_verify.specs.WitnessOutcomes.{IsWitnessFound}
use Rattle.mat_verify.proofs.making.witness_text.Goals as goal

pub returns-clause-text : goal.returns-clause-text
returns-clause-text g c =
    let held = g.F.Shelf.held c.args.files.now c.args.certificate.now in
    IfOk-weaker _ _ (λ v. IfSome held (λ bytes. IsWitnessFound (instance_of c.args.problem.now) c.args.k bytes v.items))
    (λ v made. if_told held _ _ (λ bytes of_rung. record {
      answer = certificate_of c.in_ok-answer.answer;
      of_rung = of_rung;
      right = made.0;
      shows = made.1;
    }) c.in_ok-answer.ensures.answer) c.text_of_rung-text.ensures.text

pub returns-clause-refusal : goal.returns-clause-refusal
returns-clause-refusal g c =
    let held = g.F.Shelf.held c.args.files.now c.args.certificate.now in
    IfErr-weaker _ _ _
    (refused_by (instance_of c.args.problem.now) c.args.k held _ _ (certificate_of c.in_ok-answer.answer) c.in_ok-answer.ensures.answer)
    c.text_of_rung-text.ensures.refusal
