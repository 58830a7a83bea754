use Rattle.mat_facts.proofs.RightReasons.{right_gives_reason}
use Rattle.mat_facts.proofs.laws.right_answers_give_reasons.Goals as goal

pub returns : goal.returns
returns c = record {
  hold = λ told problem answer valid right. (right_gives_reason told problem answer valid right).0;
  suffice = λ told problem answer valid right. (right_gives_reason told problem answer valid right).1;
}
