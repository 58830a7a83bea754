-- After some columns of the independent set each has a probe that it alone of them meets oddly, and the rows meet all of them evenly. A next column
-- without a row that it meets oddly would be a sum of those before it.
use Rattle.mat_witness.proofs.Common.{◌≡◌, ℕ, List, ◌^◌, ◌<◌, ◌∙◌, ap, subst, map, length, get_or, arith, common_steps, get_or_default, all_below, column_of}
use Rattle.mat_witness.proofs.ReducedRows.{item-below}
use Rattle.mat_witness.proofs.TellingRows.{AreProbes, AreProbes-start, AreProbes-read, no_row_even, probes_shown}
use Rattle.mat_witness.proofs.parts.columns.probes.probes_of.Goals as goal

pub loop-e-init : goal.loop-e-init
loop-e-init c =
    let matroid = c.args.matroid.now in
    AreProbes-start matroid.dim (column_of matroid.columns) c.args.set.now c.in_ok-rows.rows.items c.new-probes.result.items
    (c.in_ok-rows.ensures ∙ ap (λ dim. map (λ place. 2 ^ place) (all_below dim)) c.dim.ensures) c.new-probes.ensures.items

pub bounds-columns-e : goal.bounds-columns-e
bounds-columns-e c =
    rw c.columns.ensures (item-below (length c.args.matroid.now.columns) (column_of c.args.matroid.now.columns) c.args.set.now
    c.as_slice-e-items.result.now c.loop-e.e-index c.requires.set c.as_slice-e-items.ensures.items c.loop-e-test.true)

pub unreachable-requires : goal.unreachable-requires
unreachable-requires c =
    let matroid = c.args.matroid.now in
    let i = c.loop-e.e-index in
    let within = c.loop-e-test.true in
    let long = ap length c.as_slice-e-items.ensures.items in
    no_row_even matroid.dim matroid.columns c.args.set.now i c.loop-e.rows.items c.loop-e.probes.items
    (get_or c.columns.result.now (get_or c.as_slice-e-items.result.now i 0) 0) c.requires.sound c.requires.set c.loop-e.invariant (omega arith)
    (ap (λ (cs : List ℕ). get_or cs (get_or c.as_slice-e-items.result.now i 0) 0) c.columns.ensures
    ∙ ap (λ (xs : List ℕ). column_of matroid.columns (get_or xs i 0)) c.as_slice-e-items.ensures.items)
    c.in_default.ensures.none

pub loop-e-preserved : goal.loop-e-preserved
loop-e-preserved c =
    let matroid = c.args.matroid.now in
    let i = c.loop-e.e-index in
    let pushed = c.in_ok-push.ensures.items in
    let evened = c.make_even.ensures in
    let ok = c.loop-e.probes.ok in
    let value = c.as_mut_slice.ensures.value in
    let taken = c.in-Some.ensures.some in
    AreProbes-read matroid.dim (column_of matroid.columns) c.args.set.now i c.loop-e.rows.items c.loop-e.probes.items c.in-Some.row
    c.take_odd_row.new.rows.items c.push.new.self.items
    (get_or c.columns.result.now (get_or c.as_slice-e-items.result.now i 0) 0) c.loop-e.invariant
    (ap (λ (cs : List ℕ). get_or cs (get_or c.as_slice-e-items.result.now i 0) 0) c.columns.ensures
    ∙ ap (λ (xs : List ℕ). column_of matroid.columns (get_or xs i 0)) c.as_slice-e-items.ensures.items)
    taken
    (grind (arith, common_steps, pushed, evened, value, ok))

pub returns-clause-part : goal.returns-clause-part
returns-clause-part c =
    let probed = c.loop-e.invariant in
    let probes = c.loop-e.probes.items in
    let over = c.loop-e-test.false in
    let most = c.loop-e.auto.e-index-end in
    let long = ap length c.as_slice-e-items.ensures.items in
    let many = probed.many in
    (omega arith, λ k d l. subst (λ x. x < 2 ^ c.args.matroid.now.dim) (get_or_default probes k 0 d l) (probed.below k l))

pub returns-clause-shows : goal.returns-clause-shows
returns-clause-shows c =
    let matroid = c.args.matroid.now in
    let column = column_of matroid.columns in
    let set = c.args.set.now in
    let rows = c.loop-e.rows.items in
    let probes = c.loop-e.probes.items in
    let over = c.loop-e-test.false in
    let most = c.loop-e.auto.e-index-end in
    let long = ap length c.as_slice-e-items.ensures.items in
    let all : c.loop-e.e-index ≡ length set = omega arith in
    probes_shown matroid.dim column set rows probes (subst (λ i. AreProbes matroid.dim column set i rows probes) all c.loop-e.invariant)
