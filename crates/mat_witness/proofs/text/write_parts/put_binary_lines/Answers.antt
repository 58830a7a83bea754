use Rattle.mat_witness.proofs.Common.{get_or, arith, rules, get_or_default, line_added, binary_line}
use Rattle.mat_witness.proofs.text.write_parts.put_binary_lines.Goals as goal

pub loop-number-preserved : goal.loop-number-preserved
loop-number-preserved c =
    let number = get_or c.args.numbers.now c.loop-number.number-index 0 in
    line_added (binary_line c.args.keyword.now c.args.digits) c.args.out.now.items c.args.numbers.now c.loop-number.number-index
    number c.loop-number.out.items _ (omega arith)
    (get_or_default c.args.numbers.now c.loop-number.number-index 0 number (omega arith)) c.loop-number.invariant (search rules)
