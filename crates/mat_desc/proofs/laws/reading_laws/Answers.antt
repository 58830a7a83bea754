use Rattle.mat_desc.proofs.InstanceLaws.{read_found, read_again, named_found, named_again}
use Rattle.mat_desc.proofs.ProblemLaws.{one_problem, either, never_both, one_fault, same_fault}
use Rattle.mat_desc.proofs.laws.reading_laws.Goals as goal

pub returns : goal.returns
returns c = record {
  exact = λ text instance. (read_found text instance, read_again text instance);
  one_problem = one_problem;
  either = either;
  never_both = never_both;
  one_fault = one_fault;
  named = λ text problem. (named_found text problem, named_again text problem);
  same_fault = same_fault;
}
