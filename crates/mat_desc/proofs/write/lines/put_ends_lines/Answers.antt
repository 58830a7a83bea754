use Rattle.mat_desc.proofs.Common.{arith, ends_line, naming}
use Rattle.mat_desc.proofs.Writing.{lines_written}
use Rattle.mat_desc.proofs.write.lines.put_ends_lines.Goals as goal

pub returns : goal.returns
returns c =
    lines_written (ends_line (naming c.args.names) c.args.keyword.now) c.args.out.now.items c.args.pairs.now
    c.loop-ends.ends-index c.loop-ends.out.items (omega arith) c.loop-ends.invariant
