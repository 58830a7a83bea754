use Rattle.mat_witness.proofs.Common.{length, tree_of, bound_part, witness_parts}
use Rattle.mat_witness.proofs.PartTexts.{length-viewed}
use Rattle.mat_witness.proofs.WitnessTexts.{as_written, rung_inside, rung_taken, taken_bounds, taken_ranges}
use Rattle.mat_witness.proofs.text.write.write_witness.Goals as goal

pub witness_text-requires-clause-first_half : goal.witness_text-requires-clause-first_half
witness_text-requires-clause-first_half c =
    let here = c.in-Pair-Intersect in
    (taken_ranges here.weights-0 (rw here.is-0 at c.requires.valid) (rw here.is-1 at c.requires.ranged) (rw here.is-1 at c.requires.rung)
    c.index.ensures).first_half

pub witness_text-requires-clause-second_half : goal.witness_text-requires-clause-second_half
witness_text-requires-clause-second_half c =
    let here = c.in-Pair-Intersect in
    (taken_ranges here.weights-0 (rw here.is-0 at c.requires.valid) (rw here.is-1 at c.requires.ranged) (rw here.is-1 at c.requires.rung)
    c.index.ensures).second_half

pub witness_text-requires-clause-bounds : goal.witness_text-requires-clause-bounds
witness_text-requires-clause-bounds c =
    let here = c.in-Pair-Intersect in
    let inside = rung_inside here.count-1 here.rungs.items here.cut-1 c.args.k (rw here.is-1 at c.requires.rung) in
    let bounds = taken_bounds here.weights-0 (tree_of here.first) (tree_of here.second) here.count-1 here.rungs.items here.cut-1 c.args.k
    c.index.result.now (witness_parts c.args.witness.now) inside c.index.ensures
    (rw (here.is-0, here.is-1) at c.requires.witness) in
    length-viewed bound_part (length here.weights-0) _ c.args.witness.now.bounds.items bounds

pub returns-in-Pair-Intersect : goal.returns-in-Pair-Intersect
returns-in-Pair-Intersect c =
    let here = c.in-Pair-Intersect in
    let inside = rung_inside here.count-1 here.rungs.items here.cut-1 c.args.k (rw here.is-1 at c.requires.rung) in
    rw (here.is-0, here.is-1) (as_written (λ text. text.items) c.witness_text.result here.weights-0 (tree_of here.first) (tree_of here.second)
    here.count-1 here.rungs.items here.cut-1 c.args.k c.index.result.now (witness_parts c.args.witness.now)
    (rung_taken here.rungs.items c.args.k c.index.result.now inside c.index.ensures) c.witness_text.ensures)
