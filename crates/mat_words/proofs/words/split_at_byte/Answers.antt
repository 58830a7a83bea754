use Rattle.mat_words.proofs.Common.{arith}
use Rattle.mat_words.proofs.Splitting.{split_at_byte, split_at_none}
use Rattle.mat_words.proofs.words.split_at_byte.Goals as goal

pub returns-then-b-stop-clause-parts : goal.returns-then-b-stop-clause-parts
returns-then-b-stop-clause-parts c = split_at_byte c.args.stop c.args.bytes.now c.loop-i.i c.loop-i-test.true c.if-b-stop.true c.loop-i.invariant

pub returns-clause-parts : goal.returns-clause-parts
returns-clause-parts c = split_at_none c.args.stop c.args.bytes.now (λ k h. c.loop-i.invariant k (omega arith))
