-- The rung and the cut of a right answer are in range, and both matroids have witnesses; what is made of them shows the rung.
use Rattle.mat_witness.proofs.Common.{IfOk-weaker, tree_of, witness_parts}
use Rattle.mat_witness.proofs.MadeWitnesses.{are_witnessed, cut_inside, made_is_shown, made_is_witness, right_is_split}
use Rattle.mat_witness.proofs.make.make_witness.Goals as goal

pub rung_witness-requires-clause-witnessed : goal.rung_witness-requires-clause-witnessed
rung_witness-requires-clause-witnessed c =
    let here = c.in-Pair-Intersect in
    are_witnessed here.weights-0 (tree_of here.first) (tree_of here.second) (rw here.is-0 at c.requires.valid) (rw here.is-0 at c.requires.witnessed)

pub rung_witness-requires-clause-rung : goal.rung_witness-requires-clause-rung
rung_witness-requires-clause-rung c =
    let here = c.in-Pair-Intersect in
    right_is_split (tree_of here.first) (tree_of here.second) (rw here.is-0 at c.requires.valid)
    (rw here.is-1 at c.requires.ranged) (rw here.is-1 at c.requires.rung) (rw (here.is-0, here.is-1) at c.requires.right) c.index.ensures

pub rung_witness-requires-clause-cut : goal.rung_witness-requires-clause-cut
rung_witness-requires-clause-cut c =
    let here = c.in-Pair-Intersect in
    cut_inside (tree_of here.first) (tree_of here.second) (rw here.is-0 at c.requires.valid)
    (rw here.is-1 at c.requires.ranged) (rw here.is-1 at c.requires.rung) (rw (here.is-0, here.is-1) at c.requires.right) c.index.ensures

pub returns-clause-witness : goal.returns-clause-witness
returns-clause-witness c =
    let here = c.in-Pair-Intersect in
    rw (here.is-0, here.is-1) (IfOk-weaker _ _ _
    (λ w. made_is_witness (tree_of here.first) (tree_of here.second) (rw here.is-0 at c.requires.valid)
    (rw here.is-1 at c.requires.ranged) (rw here.is-1 at c.requires.rung) (rw (here.is-0, here.is-1) at c.requires.right) c.index.ensures
    (witness_parts w))
    c.rung_witness.ensures)

pub returns-clause-shown : goal.returns-clause-shown
returns-clause-shown c =
    let here = c.in-Pair-Intersect in
    rw (here.is-0, here.is-1) (IfOk-weaker _ _ _
    (λ w. made_is_shown (tree_of here.first) (tree_of here.second) (rw here.is-0 at c.requires.valid)
    (rw here.is-1 at c.requires.ranged) (rw here.is-1 at c.requires.rung) (rw (here.is-0, here.is-1) at c.requires.right) c.index.ensures
    (witness_parts w))
    c.rung_witness.ensures)
