use Rattle.mat_check.proofs.Common.{Some, sym, ap, ◌∙◌, IsSoundInstance-valid, answer_clauses, has_header, header_clause}
use Rattle.mat_cert.specs.Views.{certificate_of}
use Rattle.mat_problem.specs.Views.{instance_of}
use Rattle.mat_check.proofs.FailingClauses.{first_of_failing, first_of_holding}
use Rattle.mat_check.proofs.Verdicts.{yes_where_right}
use Rattle.mat_check.proofs.checker.check.Goals as goal

pub answer_failure-requires-clause-sound : goal.answer_failure-requires-clause-sound
answer_failure-requires-clause-sound g c = IsSoundInstance-valid (instance_of c.args.problem.now) c.requires.valid

pub returns-then-not-branch-clause-yes : goal.returns-then-not-branch-clause-yes
returns-then-not-branch-clause-yes g c =
    let problem = instance_of c.args.problem.now in
    let answer = certificate_of c.args.answer.now in
    yes_where_right problem answer c.requires.valid c.requires.ranged c.requires.fits c.from.result
    (c.from.ensures ∙ ap Some c.at.ensures
    ∙ sym (first_of_failing (header_clause (has_header problem answer)) (answer_clauses problem answer)
    (sym c.in_ok-has_header.ensures ∙ c.if-not-branch.true)))

pub returns-clause-yes : goal.returns-clause-yes
returns-clause-yes g c =
    let problem = instance_of c.args.problem.now in
    let answer = certificate_of c.args.answer.now in
    yes_where_right problem answer c.requires.valid c.requires.ranged c.requires.fits c.from-2.result
    (c.from-2.ensures ∙ c.in_ok-found.ensures
    ∙ sym (first_of_holding (header_clause (has_header problem answer)) (answer_clauses problem answer)
    (sym c.in_ok-has_header.ensures ∙ c.if-not-branch.false)))
