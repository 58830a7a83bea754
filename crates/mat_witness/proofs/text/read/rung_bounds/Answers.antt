use Rattle.mat_witness.proofs.Common.{◌∙◌, List, ap, lines_left, Tree, tree_of, bounds_at}
use Rattle.mat_witness.proofs.BoundRows.{row_at-bounds}
use Rattle.mat_witness.proofs.text.read.rung_bounds.Goals as goal

pub returns : goal.returns
returns c =
    let first = tree_of c.args.first.now in
    let second = tree_of c.args.second.now in
    rw (ap (λ (trees : List Tree). bounds_at c.args.count trees (lines_left c.args.lines)) (c.in_ok-firsts.ensures first second)
    ∙ row_at-bounds c.args.count first second c.in_ok-firsts.firsts c.in_ok-firsts.seconds (lines_left c.args.lines))
    c.bounds_in_row.ensures
