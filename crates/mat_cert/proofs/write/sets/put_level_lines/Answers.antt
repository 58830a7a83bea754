use Rattle.mat_cert.proofs.Common.{arith, rules, level_line}
use Rattle.mat_cert.proofs.LineTexts.{line_added}
use Rattle.mat_cert.proofs.write.sets.put_level_lines.Goals as goal

pub loop-level-preserved : goal.loop-level-preserved
loop-level-preserved c =
    line_added level_line c.args.out.now.items c.args.levels.now c.loop-level.level-index c.level-item.result
    c.loop-level.out.items _ (omega arith) c.level-item.is c.loop-level.invariant (search rules)
