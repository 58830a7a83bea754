use Rattle.mat_words.proofs.Common.{arith, take_all}
use Rattle.mat_words.proofs.Splitting.{split_at_byte, split_at_none}
use Rattle.mat_words.proofs.short_numbers.left_behind.Goals as goal

pub returns-then-place-line : goal.returns-then-place-line
returns-then-place-line c =
    rw (take_all c.args.place c.args.line.now (omega arith)) (split_at_none 32 c.args.line.now (λ k h. c.requires.one_word k (omega arith)))

pub returns : goal.returns
returns c = split_at_byte 32 c.args.line.now c.args.place (omega arith) c.if-line-place-ne32.false c.requires.one_word
