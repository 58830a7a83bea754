use Rattle.mat_witness.proofs.Common.{◌≡◌, suc, ◌-◌, length, get_or, sym, ap, ◌∙◌, arith, row_at, is_member, AllBelow-at}
use Rattle.mat_witness.proofs.SourcePaths.{is_path-along, is_path-off}
use Rattle.mat_witness.proofs.parts.gammoids.paths.is_along.Goals as goal

pub row-requires : goal.row-requires
row-requires c = AllBelow-at (length c.args.rows.now) c.args.path.now (c.loop-i.i - 1) c.requires.below (omega (arith, c.loop-i-test.true))

pub returns-then-not-contains : goal.returns-then-not-contains
returns-then-not-contains c =
    let rows = c.args.rows.now in
    let path = c.args.path.now in
    let i = c.loop-i.i in
    let next : suc (i - 1) ≡ i = omega (arith, c.loop-i.auto.i) in
    is_path-off rows path c.requires.below (i - 1) (omega (arith, c.loop-i-test.true))
    (ap (λ k. is_member (get_or path k 0) (row_at rows (get_or path (i - 1) 0))) next ∙ ap (is_member (get_or path i 0)) (sym c.row.ensures)
    ∙ sym c.if-not-contains.ensures)

pub returns : goal.returns
returns c =
    is_path-along c.args.rows.now c.args.path.now c.requires.below c.requires.some c.loop-i.i (omega (arith, c.loop-i-test.false)) c.loop-i.invariant
