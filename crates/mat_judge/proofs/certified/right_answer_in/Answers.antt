use Rattle.mat_judge.proofs.Common.{IfErr-weaker, certificate_of, instance_of, IsNotRight}
use Rattle.mat_judge.proofs.Judging.{not_right_there, test_fails}
use Rattle.mat_judge.proofs.certified.right_answer_in.Goals as goal

pub returns-clause-refusal : goal.returns-clause-refusal
returns-clause-refusal g c =
    let instance = instance_of c.args.problem.now in
    let name = c.args.name.now in
    let held = g.F.Shelf.held c.args.files.now name in
    let before = g.F.Shelf.faults c.args.files.now name in
    let now = g.F.Shelf.faults c.answer_in.new.files name in
    let answer = c.in_ok-answer in
    rw c.and.ensures (test_fails c.judge_answer.result answer.answer (IsNotRight instance held before now) (IfErr-weaker c.judge_answer.result _ _
    (not_right_there instance held before now (certificate_of answer.answer) answer.ensures.certified) c.judge_answer.ensures.refusal))
