use Rattle.mat_witness.proofs.Common.{codes, arith, rules, members_line, line_added}
use Rattle.mat_witness.proofs.text.write_parts.put_path_lines.Goals as goal

pub loop-path-preserved : goal.loop-path-preserved
loop-path-preserved c =
    line_added (members_line (codes "path")) c.args.out.now.items c.args.paths.now c.loop-path.path-index
    c.path-item.result c.loop-path.out.items _ (omega arith) c.path-item.is c.loop-path.invariant (search rules)
