use Rattle.mat_words.proofs.Common.{arith, drop, ◌≡◌, ◌++◌, ◌∙◌, sym, decimal}
use Rattle.mat_words.proofs.DigitLemmas.{nothing_written, digit_written, no_tail}
use Rattle.mat_words.proofs.numbers.decimal_into.Goals as goal

pub loop-left-init : goal.loop-left-init
loop-left-init c = nothing_written c.args.n 40 c.args.buffer.now (omega arith) c.requires

pub loop-left-preserved : goal.loop-left-preserved
loop-left-preserved c = digit_written c.args.n c.loop-left.left c.loop-left.at 40 c.loop-left.buffer (drop 40 c.args.buffer.now) (omega arith)
    (omega arith) c.loop-left.invariant

pub returns-clause-digits : goal.returns-clause-digits
returns-clause-digits c =
    let whole : decimal c.args.n ++ drop 40 c.args.buffer.now ≡ decimal c.args.n = no_tail (decimal c.args.n) c.args.buffer.now 40 (omega arith) in
    c.short_decimal_into.ensures.digits ∙ sym c.loop-left.invariant.digits ∙ whole
