use Rattle.mat_witness.proofs.Common.{arith, rules, tree_of, bound_part}
use Rattle.mat_witness.proofs.PartTexts.{part_added, parts_added, viewed_lines}
use Rattle.mat_witness.proofs.text.write_parts.put_bounds.Goals as goal

pub loop-bound-preserved : goal.loop-bound-preserved
loop-bound-preserved c =
    part_added (viewed_lines bound_part (tree_of c.args.matroid.now)) c.args.out.now.items c.args.bounds.now c.loop-bound.bound-index
    c.bound-item.result c.loop-bound.out.items _ (omega arith) c.bound-item.is c.loop-bound.invariant (search rules)

pub returns : goal.returns
returns c =
    parts_added (viewed_lines bound_part (tree_of c.args.matroid.now)) c.args.out.now.items c.args.bounds.now c.loop-bound.bound-index
    c.loop-bound.out.items (omega arith) c.loop-bound.invariant
