use Rattle.mat_top.proofs.Common.{instance_of, request_of}
use Rattle.mat_top.proofs.Refusing.{text_found, none_found}
use Rattle.mat_top.proofs.about.text_about.Goals as goal

pub returns-clause-text : goal.returns-clause-text
returns-clause-text g c =
    text_found (g.F.Shelf.held c.args.files.now) (g.F.Shelf.held c.problem_in.new.files) c.in_ok-problem.ensures.held c.args.name.now
    (request_of c.args.request) (instance_of c.in_ok-problem.problem) c.in_ok-problem.ensures.described c.text_for-text.result (λ v. v.items)
    c.text_for-text.ensures.text

pub returns-clause-refusal : goal.returns-clause-refusal
returns-clause-refusal g c =
    none_found (g.F.Shelf.held c.args.files.now) (g.F.Shelf.held c.problem_in.new.files) c.in_ok-problem.ensures.held c.args.name.now
    (request_of c.args.request) (instance_of c.in_ok-problem.problem) c.in_ok-problem.ensures.described c.text_for-text.result
    (g.F.Shelf.faults c.args.files.now) (g.F.Shelf.faults c.problem_in.new.files) (g.F.Shelf.faults c.text_for-text.new.files)
    c.in_ok-problem.ensures.grows c.text_for-text.ensures.refusal
