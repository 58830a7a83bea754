use Rattle.mat_desc.proofs.Common.{rules, zero_weight, weighted_line, naming}
use Rattle.mat_desc.proofs.Writing.{pair_written, pairs_written}
use Rattle.mat_desc.proofs.write.lines.put_weighted_lines.Goals as goal

pub loop-i-preserved : goal.loop-i-preserved
loop-i-preserved c =
    pair_written (weighted_line (naming c.args.names) c.args.keyword.now) c.args.out.now.items c.args.pairs.now c.args.weights.now c.loop-i.i
    (0, 0) zero_weight c.loop-i.out.items _ (search rules) c.loop-i.invariant (search rules)

pub returns : goal.returns
returns c =
    pairs_written (weighted_line (naming c.args.names) c.args.keyword.now) c.args.out.now.items c.args.pairs.now c.args.weights.now c.loop-i.i
    c.loop-i.out.items (search rules) c.loop-i.invariant
