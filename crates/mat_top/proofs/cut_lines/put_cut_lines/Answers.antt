use Rattle.mat_top.proofs.Common.{arith, rules, line_added, cut_line}
use Rattle.mat_top.proofs.cut_lines.put_cut_lines.Goals as goal

pub loop-cut-preserved : goal.loop-cut-preserved
loop-cut-preserved c =
    line_added cut_line c.args.out.now.items c.args.cuts.now c.loop-cut.cut-index c.cut-item.result
    c.loop-cut.out.items _ (omega arith) c.cut-item.is c.loop-cut.invariant (search rules)
