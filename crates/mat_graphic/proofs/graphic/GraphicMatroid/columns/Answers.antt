-- Each edge outside the base is entered in the columns of the members that it can be exchanged for; those of the edges so far are complete.
use Rattle.mat_graphic.proofs.Common.{◌<◌, [], length, refl, subst, sym, ap, ◌∙◌, arith, length-replicate, ends_of, is_member, AllBelow, row_of, AreEntering-none, AreEntering-entered, AreEntering-passed, is_graphic}
use Rattle.mat_laws.proofs.Independent.{below}
use Rattle.mat_graphic.proofs.EnteredTrails.{AreEntering-all}
use Rattle.mat_graphic.proofs.graphic.GraphicMatroid.columns.Goals as goal
use Rattle.mat_graphic.proofs.graphic.GraphicMatroid.columns.Goals.{then-not-contains+in_ok-enter_exchanges, else-not-contains}

pub empty_each-requires : goal.empty_each-requires
empty_each-requires c =
    rw c.as_slice.ensures.items (subst (λ n. AllBelow n c.args.base.now)
    (sym (ap length c.in_ok-columns.ensures ∙ length-replicate c.size-size.result [] ∙ c.size-size.ensures))
    (below c.lawful.ensures c.args.base.now c.requires.base))

pub loop-x-init : goal.loop-x-init
loop-x-init c =
    let emptied = rw c.as_slice.ensures.items at c.in_ok-empty_each.ensures in
    AreEntering-none c.args.base.now c.size-size.result c.in_ok-columns.columns c.empty_each.new.self c.size-size.ensures c.in_ok-columns.ensures emptied

pub enter_exchanges-requires-clause-below : goal.enter_exchanges-requires-clause-below
enter_exchanges-requires-clause-below c = omega (arith, c.size-size.ensures, c.loop-x.auto.x-end, c.loop-x-test.true)

pub enter_exchanges-requires-clause-outside : goal.enter_exchanges-requires-clause-outside
enter_exchanges-requires-clause-outside c = ap (is_member c.loop-x.x) (sym c.in_ok-members.ensures.members) ∙ sym c.contains.ensures ∙ c.if-not-contains.true

pub enter_exchanges-requires-clause-long : goal.enter_exchanges-requires-clause-long
enter_exchanges-requires-clause-long c = c.loop-x.invariant.long

pub loop-x-preserved : goal.loop-x-preserved
loop-x-preserved c = elim c.if-not-contains.branch [
  | then-not-contains+in_ok-enter_exchanges w ↦
      let edges = c.args.self.now.edges in
      let base = c.args.base.now in
      let x = c.loop-x.x in
      let row = row_of (is_graphic (length edges) (ends_of edges)) base x in
      let out = ap (is_member c.loop-x.x) (sym c.in_ok-members.ensures.members) ∙ sym c.contains.ensures ∙ w.if-not-contains.true in
      let small : x < length edges = omega (arith, c.size-size.ensures, c.loop-x.auto.x-end, c.loop-x-test.true) in
      rw w.columns-is (AreEntering-entered base x c.loop-x.columns _ row row.with c.lawful.ensures c.requires.base small out refl refl
      w.in_ok-enter_exchanges.ensures.count (λ y k m. w.in_ok-enter_exchanges.ensures.members k y m) c.loop-x.invariant)
  | else-not-contains w ↦
      rw w.columns-is (AreEntering-passed _ _ c.args.base.now c.loop-x.x c.loop-x.columns
      (ap (is_member c.loop-x.x) (sym c.in_ok-members.ensures.members) ∙ sym c.contains.ensures ∙ w.if-not-contains.false) c.loop-x.invariant)
]

pub returns : goal.returns
returns c = AreEntering-all _ _ c.args.base.now c.loop-x.x c.loop-x.columns (omega (arith, c.size-size.ensures, c.loop-x-test.false))
    c.loop-x.invariant
