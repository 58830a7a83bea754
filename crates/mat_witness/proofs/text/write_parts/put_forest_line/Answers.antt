use Rattle.mat_witness.proofs.Common.{◌++◌, codes, arith, rules}
use Rattle.mat_witness.proofs.PartTexts.{pair_written, pairs_written}
use Rattle.mat_witness.proofs.text.write_parts.put_forest_line.Goals as goal

pub loop-pair-preserved : goal.loop-pair-preserved
loop-pair-preserved c =
    pair_written (c.args.out.now.items ++ codes "forest") c.args.pairs.now c.loop-pair.pair-index c.loop-pair.out.items _ (omega arith)
    c.loop-pair.invariant (search rules)

pub returns : goal.returns
returns c =
    pairs_written c.args.out.now.items (codes "forest") c.args.pairs.now c.loop-pair.pair-index c.loop-pair.out.items _ (omega arith)
    c.loop-pair.invariant (search rules)
