use Rattle.mat_union.proofs.Common.{◌≡◌, ◌<◌, ◌∙◌, [], length, get_or, arith, ap, sym, rules, vec_len, get_or_read, is_member, AllBelow-at}
use Rattle.mat_union.proofs.FollowedRows.{passed_by, passed_end, passed_none, passed_put}
use Rattle.mat_union.proofs.exchange_arcs.pass_through.Goals as goal
use Rattle.mat_union.proofs.exchange_arcs.pass_through.Goals.{then-contains+in_ok-unite_row, else-contains}

pub loop-y-init : goal.loop-y-init
loop-y-init c = passed_none c.args.v c.args.places.now c.args.rows.now.items

pub index-requires-in-loop-y : goal.index-requires-in-loop-y
index-requires-in-loop-y c =
    let size : vec_len c.loop-y.rows ≡ length c.loop-y.rows.items = search rules in
    let below = AllBelow-at (length c.args.rows.now.items) c.args.places.now c.loop-y.y-index c.requires.below c.loop-y-test.true in
    omega (arith, size, below, c.loop-y.invariant.count)

pub unite_row-requires : goal.unite_row-requires
unite_row-requires c =
    let below = AllBelow-at (length c.args.rows.now.items) c.args.places.now c.loop-y.y-index c.requires.below c.loop-y-test.true in
    omega (arith, below, c.loop-y.invariant.count)

pub loop-y-preserved : goal.loop-y-preserved
loop-y-preserved c =
    let before = c.args.rows.now.items in
    let now = c.loop-y.rows.items in
    let i = c.loop-y.y-index in
    let places = c.args.places.now in
    let below = AllBelow-at (length before) places i c.requires.below c.loop-y-test.true in
    let here : get_or places i 0 < length now = omega (arith, below, c.loop-y.invariant.count) in
    let told = c.contains.ensures ∙ ap (is_member c.args.v) (get_or_read now (get_or places i 0) c.index-in-loop-y.result.now here c.index-in-loop-y.ensures []) in
    elim c.if-contains.branch [
      | then-contains+in_ok-unite_row w ↦ rw w.rows-is (passed_put c.args.v places i before now c.loop-y-test.true c.loop-y.invariant _ _
          (c.in_ok-through.ensures ∙ get_or_read before c.args.v c.index.result.now c.requires.here c.index.ensures [])
          (sym told ∙ w.if-contains.true) w.in_ok-unite_row.ensures)
      | else-contains w ↦ rw w.rows-is (passed_by c.args.v places i before now c.loop-y-test.true c.loop-y.invariant (sym told ∙ w.if-contains.false))
    ]

pub returns : goal.returns
returns c = passed_end c.args.v c.args.places.now c.loop-y.y-index c.args.rows.now.items c.loop-y.rows.items (omega (arith, c.loop-y-test.false)) c.loop-y.invariant
