use Rattle.mat_cert.proofs.Common.{arith, rules, members_line}
use Rattle.mat_cert.proofs.LineTexts.{line_added}
use Rattle.mat_cert.proofs.write.sets.put_set_lines.Goals as goal

pub loop-set-preserved : goal.loop-set-preserved
loop-set-preserved c =
    line_added (members_line c.args.keyword.now) c.args.out.now.items c.as_slice-items.result.now c.loop-set.set-index c.set-item.result
    c.loop-set.out.items _ (omega arith) c.set-item.is c.loop-set.invariant (search rules)
