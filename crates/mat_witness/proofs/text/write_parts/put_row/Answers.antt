use Rattle.mat_witness.proofs.Common.{on_ok_weaker, tree_of, bound_part}
use Rattle.mat_witness.proofs.PartTexts.{rows_written}
use Rattle.mat_witness.proofs.text.write_parts.put_row.Goals as goal

pub returns : goal.returns
returns c =
    on_ok_weaker c.put_bounds-4.result (λ last. rows_written bound_part (tree_of c.args.first.now) (tree_of c.args.second.now) c.args.firsts c.args.seconds
    c.args.bounds.now c.bounds_behind-rest.result.now c.bounds_behind-last_two.result.now c.bounds_behind.result.now c.args.out.now.items c.put_bounds.new.out.items
    c.put_bounds-2.new.out.items c.put_bounds-3.new.out.items c.put_bounds-4.new.out.items c.requires
    c.bounds_behind-rest.ensures.rest c.bounds_behind-last_two.ensures.rest c.bounds_behind.ensures.rest
    c.in_ok-put_bounds.ensures c.in_ok-put_bounds-2.ensures c.in_ok-put_bounds-3.ensures last) c.put_bounds-4.ensures
