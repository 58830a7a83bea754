use Rattle.mat_top.proofs.Common.{IfOk-weaker, instance_of, length-certificate_text, HasSolutionText}
use Rattle.mat_cert.specs.Views.{certificate_of}
use Rattle.mat_top.proofs.about.solution_text.Goals as goal

pub returns : goal.returns
returns g c =
    let certificate = certificate_of c.in_ok-answer.answer in
    let solved = c.in_ok-answer.ensures in
    IfOk-weaker _ _ (λ v. HasSolutionText c.args.query (instance_of c.args.problem.now) v.items) (λ v whole. record {
      form = c.requires.form;
      solution = record { certificate = certificate; of_query = solved.of_query; solution = solved.solution; whole = whole };
      short = rw whole (length-certificate_text certificate solved.solution.ranged);
    }) c.write_answer-text.ensures
