-- The rows meet the columns so far evenly; each column takes away at most one of them.
use Rattle.mat_witness.proofs.Common.{◌≡◌, ℕ, List, ◌^◌, ◌<◌, ◌∙◌, ap, subst, map, length, get_or, arith, get_or_default, all_below, column_of}
use Rattle.mat_witness.proofs.ReducedRows.{AreReduced, AreReduced-start, AreReduced-read, item-below, reduced_are_zeros}
use Rattle.mat_witness.proofs.parts.columns.zeros.zeros_of.Goals as goal

pub loop-e-init : goal.loop-e-init
loop-e-init c =
    let matroid = c.args.matroid.now in
    AreReduced-start matroid.dim (column_of matroid.columns) c.args.inside.now c.in_ok-rows.rows.items
    (c.in_ok-rows.ensures ∙ ap (λ dim. map (λ place. 2 ^ place) (all_below dim)) c.dim.ensures)

pub bounds-columns-e : goal.bounds-columns-e
bounds-columns-e c =
    rw c.columns.ensures (item-below (length c.args.matroid.now.columns) (column_of c.args.matroid.now.columns) c.args.inside.now
    c.as_slice-e-items.result.now c.loop-e.e-index c.requires.inside c.as_slice-e-items.ensures.items c.loop-e-test.true)

pub loop-e-preserved : goal.loop-e-preserved
loop-e-preserved c =
    let matroid = c.args.matroid.now in
    let i = c.loop-e.e-index in
    let told = c.take_odd_row-taken.ensures in
    AreReduced-read matroid.dim (column_of matroid.columns) c.args.inside.now i c.loop-e.rows.items c.take_odd_row-taken.new.rows.items
    c.loop-e.invariant c.take_odd_row-taken.result (get_or c.columns.result.now (get_or c.as_slice-e-items.result.now i 0) 0)
    (ap (λ (cs : List ℕ). get_or cs (get_or c.as_slice-e-items.result.now i 0) 0) c.columns.ensures
    ∙ ap (λ (xs : List ℕ). column_of matroid.columns (get_or xs i 0)) c.as_slice-e-items.ensures.items)
    told.some told.same told.none

pub returns-clause-part : goal.returns-clause-part
returns-clause-part c =
    let reduced = c.loop-e.invariant in
    let rows = c.loop-e.rows.items in
    (reduced.few, λ k d l. subst (λ x. x < 2 ^ c.args.matroid.now.dim) (get_or_default rows k 0 d l) (reduced.below k l))

pub returns-clause-shows : goal.returns-clause-shows
returns-clause-shows c set is_set maximal =
    let matroid = c.args.matroid.now in
    let column = column_of matroid.columns in
    let inside = c.args.inside.now in
    let rows = c.loop-e.rows.items in
    let over = c.loop-e-test.false in
    let most = c.loop-e.auto.e-index-end in
    let long = ap length c.as_slice-e-items.ensures.items in
    let all : c.loop-e.e-index ≡ length inside = omega arith in
    reduced_are_zeros (length matroid.columns) matroid.dim column set inside rows is_set maximal
    (subst (λ i. AreReduced matroid.dim column inside i rows) all c.loop-e.invariant)
