-- The basis is that of the set so far: an element enters if something is left of its column, and else it is a sum of members.
use Rattle.mat_gf2.proofs.Common.{◌∙◌, true, false, length, refl, ap, slice_index_or, AllBelow-at, IsRunning-start, IsRunning-next, IsRunning-end, column_of, reduced_by}
use Rattle.std.proofs.lemmas.Result.{IfOk-weaker}
use Rattle.mat_gf2.specs.Gf2Laws.{gf2_laws}
use Rattle.mat_gf2.proofs.GrowingBasis.{IsBasisOf-start, IsBasisOf-more, enters, stays_out}
use Rattle.mat_gf2.proofs.elimination.run_along.Goals as goal
use Rattle.mat_gf2.proofs.elimination.run_along.Goals.{then-left-ne0+in_ok-push+in_ok-insert, else-left-ne0}

pub loop-x-init : goal.loop-x-init
loop-x-init c =
    let column = column_of c.args.columns.now in (
      IsRunning-start _ _ _ (gf2_laws (length c.args.columns.now) column).empty c.new-set.ensures,
      IsBasisOf-start column _ _ c.new-set.ensures c.new-basis.ensures.items,
    )

pub bounds-columns-x : goal.bounds-columns-x
bounds-columns-x c = AllBelow-at _ _ c.loop-x.x-index c.requires c.loop-x-test.true

pub loop-x-preserved : goal.loop-x-preserved
loop-x-preserved c =
    let n = length c.args.columns.now in
    let column = column_of c.args.columns.now in
    let x = slice_index_or c.args.order.now c.loop-x.x-index 0 in
    let small = AllBelow-at _ _ c.loop-x.x-index c.requires c.loop-x-test.true in
    let told = c.reduce-left.ensures ∙ ap (λ basis. reduced_by basis (column x)) c.deref.ensures.value in
    let running = c.loop-x.invariant.0 in
    let eliminates = c.loop-x.invariant.1 in
    let next = IsRunning-next _ _ _ c.loop-x.x-index x c.loop-x-test.true refl running in
    elim c.if-left-ne0.branch [
      | then-left-ne0+in_ok-push+in_ok-insert w ↦
          let some = w.if-left-ne0.true in
          let set = w.set-is ∙ w.in_ok-insert.ensures.ok in
          let grown = IsBasisOf-more n column _ _ x _ running.passes small told eliminates some in (
            next true c.if-left-ne0.set (enters n column _ _ x _ running.passes small told eliminates some) set,
            rw (set, w.basis-is, w.in_ok-push.ensures.items) grown,
          )
      | else-left-ne0 w ↦
          let nothing = w.if-left-ne0.false in (
            next false c.if-left-ne0.set (stays_out n column _ _ x _ running.passes small told eliminates nothing) w.set-is,
            rw (w.set-is, w.basis-is) eliminates,
          )
    ]

pub returns : goal.returns
returns c =
    IfOk-weaker c.from_bits.result _ _ (λ set members. members ∙ IsRunning-end _ _ _ c.loop-x.x-index c.loop-x-test.false c.loop-x.invariant.0)
    c.from_bits.ensures.members
