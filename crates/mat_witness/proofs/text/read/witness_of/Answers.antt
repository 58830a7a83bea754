use Rattle.mat_witness.proofs.Common.{tree_of, witness_parts}
use Rattle.mat_witness.proofs.WitnessTexts.{gives_read, rung_inside, rung_taken, taken_ranges}
use Rattle.mat_witness.proofs.text.read.witness_of.Goals as goal

pub witness_lines-requires : goal.witness_lines-requires
witness_lines-requires c =
    let here = c.in-Pair-Intersect in
    rw c.len-count.ensures (taken_ranges here.weights (rw here.is-0 at c.requires.valid) (rw here.is-1 at c.requires.ranged)
    (rw here.is-1 at c.requires.rung) c.index-rung.ensures)

pub returns-in-Pair-Intersect : goal.returns-in-Pair-Intersect
returns-in-Pair-Intersect c =
    let here = c.in-Pair-Intersect in
    let inside = rung_inside here.count-1 here.rungs.items here.cut-1 c.args.k (rw here.is-1 at c.requires.rung) in
    rw (here.is-0, here.is-1) (gives_read witness_parts c.witness_lines.result here.weights (tree_of here.first) (tree_of here.second)
    here.count-1 here.rungs.items here.cut-1 c.args.k c.index-rung.result.now c.args.text.now c.len-count.result c.len-count.ensures
    (rung_taken here.rungs.items c.args.k c.index-rung.result.now inside c.index-rung.ensures) c.witness_lines.ensures)
