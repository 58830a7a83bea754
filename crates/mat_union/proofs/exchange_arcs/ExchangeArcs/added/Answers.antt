use Rattle.mat_union.proofs.Common.{◌≡◌, ◌∙◌, [], length, get_or, arith, sym, rules, vec_len, get_or_read, AllBelow-at}
use Rattle.mat_union.proofs.FollowedRows.{added_by, added_end, added_none, added_put}
use Rattle.mat_union.proofs.exchange_arcs.ExchangeArcs.added.Goals as goal
use Rattle.mat_union.proofs.exchange_arcs.ExchangeArcs.added.Goals.{then-contains+in_ok-unite, else-contains}

pub loop-y-init : goal.loop-y-init
loop-y-init c = added_none c.args.self.now.entering c.args.members.now c.in_ok-added.added c.args.self.now.into.items c.in_ok-added.ensures

pub index-requires : goal.index-requires
index-requires c =
    let size : vec_len c.args.self.now.into ≡ length c.args.self.now.into.items = search rules in
    let below = AllBelow-at (length c.args.self.now.into.items) c.args.members.now c.loop-y.y-index c.requires c.loop-y-test.true in
    omega (arith, size, below)

pub loop-y-preserved : goal.loop-y-preserved
loop-y-preserved c =
    let entering = c.args.self.now.entering in
    let rows = c.args.self.now.into.items in
    let members = c.args.members.now in
    let i = c.loop-y.y-index in
    let below = AllBelow-at (length rows) members i c.requires c.loop-y-test.true in
    elim c.if-contains.branch [
      | then-contains+in_ok-unite w ↦ rw w.added-is (added_put entering members rows i c.loop-y.added c.loop-y-test.true c.loop-y.invariant _ w.index.result.now
          (get_or_read rows (get_or members i 0) w.index.result.now below w.index.ensures []) (sym c.contains.ensures ∙ w.if-contains.true) w.in_ok-unite.ensures.ok)
      | else-contains w ↦ rw w.added-is (added_by entering members rows i c.loop-y.added c.loop-y-test.true c.loop-y.invariant (sym c.contains.ensures ∙ w.if-contains.false))
    ]

pub returns : goal.returns
returns c = added_end c.args.self.now.entering c.args.members.now c.args.self.now.into.items c.loop-y.y-index c.loop-y.added (omega (arith, c.loop-y-test.false)) c.loop-y.invariant
