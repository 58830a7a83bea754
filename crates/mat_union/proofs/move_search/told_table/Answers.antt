use Rattle.mat_union.proofs.Common.{◌≡◌, ◌∙◌, ◌+◌, ◌<◌, [], length, subst, sym, arith, get_or_default, AllBelow-at, IsToldTable}
use Rattle.mat_union.proofs.ToldTables.{empty_table, row_put}
use Rattle.mat_union.proofs.move_search.told_table.Goals as goal

pub loop-k-init : goal.loop-k-init
loop-k-init c = empty_table c.args.elements c.args.queue.now c.args.told.now _ c.in_ok-table.ensures

pub replace-requires : goal.replace-requires
replace-requires c =
    let within : c.loop-k.k < length c.args.queue.now = omega (arith, c.loop-k-test.true, c.requires.told) in
    omega (arith, AllBelow-at c.args.elements c.args.queue.now c.loop-k.k c.requires.below within, c.loop-k.invariant.size)

pub loop-k-preserved : goal.loop-k-preserved
loop-k-preserved c =
    let queue = c.args.queue.now in
    let told = c.args.told.now in
    let k = c.loop-k.k in
    let within : k < length queue = omega (arith, c.loop-k-test.true, c.requires.told) in
    subst (IsToldTable c.args.elements (k + 1) queue told) (sym c.replace.ensures)
    (row_put c.loop-k.invariant within (AllBelow-at c.args.elements queue k c.requires.below within) c.in_ok-row.row
    (c.in_ok-row.ensures ∙ c.index-told-k.is ∙ get_or_default told k c.index-told-k.result [] c.loop-k-test.true))

pub returns : goal.returns
returns c =
    let end : c.loop-k.k ≡ length c.args.told.now = omega (arith, c.loop-k-test.false, c.loop-k.auto.k-end) in
    subst (λ k. IsToldTable c.args.elements k c.args.queue.now c.args.told.now c.loop-k.table) end c.loop-k.invariant
