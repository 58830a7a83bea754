use Rattle.mat_desc.proofs.Common.{arith, codes, listing_line, naming}
use Rattle.mat_desc.proofs.Writing.{lines_written}
use Rattle.mat_desc.proofs.write.lines.put_family_lines.Goals as goal

pub returns : goal.returns
returns c =
    lines_written (listing_line (naming c.args.names) (codes "set")) c.args.out.now.items c.args.family.now
    c.loop-set.set-index c.loop-set.out.items (omega arith) c.loop-set.invariant
