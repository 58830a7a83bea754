use Rattle.mat_witness.proofs.Common.{◌∙◌, ap, length, tree_of}
use Rattle.mat_witness.proofs.BoundRows.{length-row_trees}
use Rattle.mat_witness.proofs.text.write.put_rung_bounds.Goals as goal

pub put_row-requires : goal.put_row-requires
put_row-requires c =
    let first = tree_of c.args.first.now in
    let second = tree_of c.args.second.now in
    c.requires.bounds ∙ ap length (c.in_ok-firsts.ensures first second) ∙ length-row_trees first second c.in_ok-firsts.firsts c.in_ok-firsts.seconds

pub returns : goal.returns
returns c = rw (c.in_ok-firsts.ensures (tree_of c.args.first.now) (tree_of c.args.second.now)) c.put_row.ensures
