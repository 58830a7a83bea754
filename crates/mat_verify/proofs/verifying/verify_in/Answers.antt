use Rattle.mat_verify.proofs.Common.{refl, inr, err_from_is_err_and, certificate_of, instance_of}
use Rattle.mat_verify.proofs.Unwitnessed.{unshown_rung}
use Rattle.mat_verify.proofs.verifying.verify_in.Goals as goal

pub returns-in_err-shown-clause-refusal : goal.returns-in_err-shown-clause-refusal
returns-in_err-shown-clause-refusal g c =
    let p = err_from_is_err_and c.from_residual-in_err-shown.result c.from_residual-in_err-shown.ensures.1 in
    let answer = c.in_ok-answer.ensures in
    let why = c.in_err-shown.field-0.0 in
    rw (p.1, p.2) (inr (
      why,
      refl,
      unshown_rung (g.F.Shelf.held c.rung_answer_in.new.files) (g.F.Shelf.held c.args.files.now) answer.held (instance_of c.args.problem.now)
          (g.F.Shelf.faults c.args.files.now) (g.F.Shelf.faults c.rung_answer_in.new.files) (g.F.Shelf.faults c.verify_file-shown.new.files) answer.grows
          c.args.k c.args.certificate.now c.args.witness.now (certificate_of c.in_ok-answer.answer) why answer.answer answer.witnessed
          c.in_err-shown.ensures.refusal,
    ))
