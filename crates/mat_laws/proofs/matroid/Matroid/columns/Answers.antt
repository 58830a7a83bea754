use Rattle.mat_laws.proofs.Common.{◌<◌, [], length, subst, sym, ap, ◌∙◌, arith, length-replicate, is_member, AllBelow}
use Rattle.mat_laws.proofs.ColumnSteps.{row_below, AreEntering-none, AreEntering-entered, AreEntering-passed}
use Rattle.mat_laws.proofs.Independent.{below}
use Rattle.mat_laws.proofs.matroid.Matroid.columns.Goals as goal
use Rattle.mat_laws.proofs.matroid.Matroid.columns.Goals.{then-not-contains+in_ok-row+in_ok-insert_each, else-not-contains}

pub empty_each-requires : goal.empty_each-requires
empty_each-requires g c =
    rw c.as_slice.ensures.items (subst (λ n. AllBelow n c.args.base.now)
    (sym (ap length c.in_ok-columns.ensures ∙ length-replicate c.size-size.result [] ∙ c.size-size.ensures))
    (below c.lawful.ensures c.args.base.now c.requires.base))

pub loop-z-init : goal.loop-z-init
loop-z-init g c =
    let emptied = rw c.as_slice.ensures.items at c.in_ok-empty_each.ensures in
    AreEntering-none c.args.base.now c.size-size.result c.in_ok-columns.columns c.empty_each.new.self c.size-size.ensures c.in_ok-columns.ensures emptied

pub insert_each-requires : goal.insert_each-requires
insert_each-requires g c =
    let out = ap (is_member c.loop-z.z) (sym c.in_ok-members.ensures.members) ∙ sym c.contains.ensures ∙ c.if-not-contains.true in
    rw (c.as_slice-then-not-contains.ensures.items, c.loop-z.invariant.long)
    (row_below c.lawful.ensures c.args.base.now c.loop-z.z c.in_ok-row.row c.requires.base out c.in_ok-row.ensures.row)

pub loop-z-preserved : goal.loop-z-preserved
loop-z-preserved g c = elim c.if-not-contains.branch [
  | then-not-contains+in_ok-row+in_ok-insert_each w ↦
      let out = ap (is_member c.loop-z.z) (sym c.in_ok-members.ensures.members) ∙ sym c.contains.ensures ∙ w.if-not-contains.true in
      let small : c.loop-z.z < g.Self.Matroid.ground_size c.args.self.now =
      omega (arith, c.size-size.ensures, c.loop-z.auto.z-end, c.loop-z-test.true) in
      rw w.columns-is (AreEntering-entered c.args.base.now c.loop-z.z c.loop-z.columns _ w.in_ok-row.row w.as_slice-then-not-contains.result.now
      c.lawful.ensures c.requires.base small out w.in_ok-row.ensures.row w.as_slice-then-not-contains.ensures.items
      w.in_ok-insert_each.ensures.count (λ y k m. w.in_ok-insert_each.ensures.members k y m) c.loop-z.invariant)
  | else-not-contains w ↦
      rw w.columns-is (AreEntering-passed _ _ c.args.base.now c.loop-z.z c.loop-z.columns
      (ap (is_member c.loop-z.z) (sym c.in_ok-members.ensures.members) ∙ sym c.contains.ensures ∙ w.if-not-contains.false) c.loop-z.invariant)
]
