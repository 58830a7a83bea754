use Rattle.mat_words.proofs.Common.{◌++◌, ◌∷◌, pos, arith, rules, numeral}
use Rattle.mat_words.proofs.WrittenLines.{item_written, line_written}
use Rattle.mat_words.proofs.writing.put_numbers_behind.Goals as goal

pub returns-clause-ok : goal.returns-clause-ok
returns-clause-ok c =
    line_written numeral c.args.out.now.items c.args.keyword.now c.args.numbers.now c.loop-z.z-index c.loop-z.out.items _ (omega arith)
    c.loop-z.invariant (search rules)

pub loop-z-preserved : goal.loop-z-preserved
loop-z-preserved c =
    item_written (λ z. 32 ∷ numeral z) (c.args.out.now.items ++ c.args.keyword.now) c.args.numbers.now c.loop-z.z-index (pos 0)
    c.loop-z.out.items _ (omega arith) c.loop-z.invariant (search rules)
