use Rattle.mat_verify.proofs.Common.{IfErr-weaker, certificate_of, instance_of, HasNoRung}
use Rattle.mat_judge.proofs.Judging.{test_fails}
use Rattle.mat_verify.proofs.Unwitnessed.{unwitnessable_there}
use Rattle.mat_verify.proofs.rung_answer.rung_answer_in.Goals as goal

pub returns-clause-refusal : goal.returns-clause-refusal
returns-clause-refusal g c =
    let instance = instance_of c.args.problem.now in
    let name = c.args.name.now in
    let held = g.F.Shelf.held c.args.files.now name in
    let before = g.F.Shelf.faults c.args.files.now name in
    let now = g.F.Shelf.faults c.answer_in.new.files name in
    let answer = c.in_ok-answer in
    let test = c.witnessable in
    rw c.and.ensures (test_fails test.result answer.answer (HasNoRung instance c.args.k held before now) (IfErr-weaker test.result _ _
    (unwitnessable_there instance c.args.k held before now (certificate_of answer.answer) answer.ensures.certified) test.ensures.refusal))
