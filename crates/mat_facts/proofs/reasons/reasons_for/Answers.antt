use Rattle.mat_facts.proofs.Common.{◌∙◌, sym, subst, ap, refl, reason_of, Holds, Suffice}
use Rattle.std.specs.List.{All}
use Rattle.mat_cert.specs.Views.{certificate_of}
use Rattle.mat_problem.specs.Views.{instance_of}
use Rattle.mat_problem.proofs.SoundProblems.{IsSoundInstance-valid}
use Rattle.mat_facts.specs.Views.{is_told}
use Rattle.mat_facts.proofs.RightReasons.{right_gives_reason}
use Rattle.mat_facts.proofs.reasons.reasons_for.Goals as goal

pub facts_for-requires-clause-sound : goal.facts_for-requires-clause-sound
facts_for-requires-clause-sound c = IsSoundInstance-valid (instance_of c.args.problem.now) c.requires.valid

pub returns-clause-hold : goal.returns-clause-hold
returns-clause-hold c =
    let problem = instance_of c.args.problem.now in
    let answer = certificate_of c.args.answer.now in
    subst (All (Holds problem answer)) (sym c.in_ok-facts.ensures) (right_gives_reason (is_told c.args.told) problem answer c.requires.valid c.requires.right).0

pub returns-clause-suffice : goal.returns-clause-suffice
returns-clause-suffice c = λ each.
    let problem = instance_of c.args.problem.now in
    let answer = certificate_of c.args.answer.now in
    subst (Suffice problem answer) (sym c.in_ok-facts.ensures)
    ((right_gives_reason (is_told c.args.told) problem answer c.requires.valid c.requires.right).1 (λ k l. ap (λ told. is_told told k) each))
