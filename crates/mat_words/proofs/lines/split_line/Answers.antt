use Rattle.mat_words.proofs.Common.{arith}
use Rattle.mat_words.proofs.Splitting.{split_at_byte, split_at_none}
use Rattle.mat_words.proofs.lines.split_line.Goals as goal

pub returns-in-None-clause-lines : goal.returns-in-None-clause-lines
returns-in-None-clause-lines c = split_at_none 10 c.args.text.now (λ k h. c.in-None.ensures k (omega arith) h)

pub returns-in-Some-clause-lines : goal.returns-in-Some-clause-lines
returns-in-Some-clause-lines c = split_at_byte 10 c.args.text.now c.in-Some.at c.in-Some.ensures.1 c.in-Some.ensures.2
    (λ k h. c.in-Some.ensures.3 k (omega arith) h)
