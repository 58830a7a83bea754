use Rattle.mat_words.proofs.Common.{arith, drop}
use Rattle.mat_words.proofs.DigitLemmas.{nothing_written, digit_written}
use Rattle.mat_words.proofs.numbers.short_decimal_into.Goals as goal

pub loop-left-init : goal.loop-left-init
loop-left-init c = nothing_written c.args.n c.args.end c.args.buffer.now c.requires.end.0 c.requires.room

pub loop-left-preserved : goal.loop-left-preserved
loop-left-preserved c = digit_written c.args.n c.loop-left.left c.loop-left.at c.args.end c.loop-left.buffer (drop c.args.end c.args.buffer.now)
    c.loop-left-test.true (omega arith) c.loop-left.invariant
