use Rattle.mat_witness.proofs.Common.{Some, sym, ap, ◌∙◌, iff_false}
use Rattle.mat_witness.proofs.UniformParts.{bound_by_all, bound_by_elements, bound_by_none}
use Rattle.mat_witness.proofs.parts.counted.uniform_bound.Goals as goal

pub returns-then-not-is_empty : goal.returns-then-not-is_empty
returns-then-not-is_empty c =
    let matroid = c.args.matroid.now in
    rw (c.len.ensures.count, c.cap.ensures)
    (bound_by_all matroid.count matroid.cap c.args.spent.now c.args.chosen.now c.args.set.now c.requires.set c.requires.chosen
    (sym c.if-not-is_empty.ensures.empty))

pub returns-then-is_subset : goal.returns-then-is_subset
returns-then-is_subset c =
    let matroid = c.args.matroid.now in
    ap Some c.len-then-is_subset.ensures.count
    ∙ bound_by_elements matroid.count matroid.cap c.args.spent.now c.args.chosen.now c.args.set.now
    (sym c.if-not-is_empty.ensures.empty) (c.is_subset.ensures.inside.0 c.if-is_subset.true)

pub returns : goal.returns
returns c =
    let matroid = c.args.matroid.now in
    bound_by_none matroid.count matroid.cap c.args.spent.now c.args.chosen.now c.args.set.now (sym c.if-not-is_empty.ensures.empty)
    (iff_false c.is_subset.ensures.inside c.if-is_subset.false)
