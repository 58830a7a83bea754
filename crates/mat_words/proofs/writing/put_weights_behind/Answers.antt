use Rattle.mat_words.proofs.Common.{◌++◌, ◌∷◌, arith, rules, weight_word}
use Rattle.mat_sets.specs.Weights.{zero_weight}
use Rattle.mat_words.proofs.WrittenLines.{item_written, line_written}
use Rattle.mat_words.proofs.writing.put_weights_behind.Goals as goal

pub returns-clause-ok : goal.returns-clause-ok
returns-clause-ok c =
    line_written weight_word c.args.out.now.items c.args.keyword.now c.args.weights.now c.loop-w.w-index c.loop-w.out.items _ (omega arith)
    c.loop-w.invariant (search rules)

pub loop-w-preserved : goal.loop-w-preserved
loop-w-preserved c =
    item_written (λ z. 32 ∷ weight_word z) (c.args.out.now.items ++ c.args.keyword.now) c.args.weights.now c.loop-w.w-index zero_weight
    c.loop-w.out.items _ (omega arith) c.loop-w.invariant (search rules)
