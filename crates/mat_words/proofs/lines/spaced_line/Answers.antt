use Rattle.mat_words.proofs.Common.{arith}
use Rattle.mat_words.proofs.Splitting.{split_at_byte}
use Rattle.mat_words.proofs.lines.spaced_line.Goals as goal

pub returns-clause-lines : goal.returns-clause-lines
returns-clause-lines c = split_at_byte 10 c.args.text.now c.in_ok-at.at c.in_ok-at.ensures.first.1 c.in_ok-at.ensures.first.2
    (λ k h. c.in_ok-at.ensures.first.3 k (omega arith) h)
