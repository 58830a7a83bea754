use Rattle.mat_union.proofs.Common.{◌∙◌, ◌||◌, ◌&&◌, not, [], length, get_or, arith, ap, get_or_read, is_member, AllBelow-at}
use Rattle.mat_union.proofs.FollowedRows.{columns_end, columns_more}
use Rattle.mat_union.proofs.exchange_arcs.columns_of.Goals as goal

pub bounds-rows-y : goal.bounds-rows-y
bounds-rows-y c = AllBelow-at (length c.args.rows.now) c.args.members.now c.loop-y.y-index c.requires.below c.loop-y-test.true

pub replace-requires : goal.replace-requires
replace-requires c =
    let below = AllBelow-at (length c.args.rows.now) c.args.members.now c.loop-y.y-index c.requires.below c.loop-y-test.true in
    omega (arith, below, c.loop-y.invariant.count)

pub loop-y-preserved : goal.loop-y-preserved
loop-y-preserved c =
    let rows = c.args.rows.now in
    let members = c.args.members.now in
    let added = c.args.added.now in
    let out = c.args.out.now in
    let i = c.loop-y.y-index in
    let below = AllBelow-at (length rows) members i c.requires.below c.loop-y-test.true in
    let same = c.in_ok-column.ensures ∙ get_or_read rows (get_or members i 0) c.index-rows-y.result below c.index-rows-y.is [] in
    rw c.replace.ensures (columns_more members added out rows c.loop-y.columns i c.remove_all.new.self c.loop-y-test.true below
    (λ z. c.remove_all.ensures z ∙ ap (λ b. b && not (is_member z out)) (c.in_ok-unite.ensures.ok z ∙ ap (λ r. is_member z r || is_member z added) same))
    c.loop-y.invariant)

pub returns : goal.returns
returns c = columns_end c.args.members.now c.args.added.now c.args.out.now c.args.rows.now c.loop-y.columns c.loop-y.y-index (omega (arith, c.loop-y-test.false)) c.loop-y.invariant
