use Rattle.mat_cert.proofs.Common.{arith, rules, priced_rung_lines}
use Rattle.mat_cert.proofs.LineTexts.{rung_written}
use Rattle.mat_cert.proofs.write.rungs.put_priced_rungs.Goals as goal

pub loop-k-preserved : goal.loop-k-preserved
loop-k-preserved c = record {
  lines = rung_written priced_rung_lines c.args.out.now.items c.args.rungs.now c.loop-k.k c.index-rungs-k.result c.loop-k.out.items _
      (omega arith) c.index-rungs-k.is c.loop-k.invariant.lines (search rules);
  first = search rules;
  second = search rules;
}
