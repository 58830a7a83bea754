use Rattle.mat_flow.proofs.Common.{◌+◌, ◌<◌, Vec, Global, ℕ, Option, length, subst, sym, arith}
use Rattle.mat_flow.proofs.LinkTables.{none_from}
use Rattle.mat_flow.proofs.TrailReading.{IsReversing, IsReversing-put, IsReversing-skip}
use Rattle.mat_flow.proofs.trails.after_table.Goals as goal
use Rattle.mat_flow.proofs.trails.after_table.Goals.{in-Some, in_default}

pub loop-v-preserved : goal.loop-v-preserved
loop-v-preserved c =
    let before = c.args.before.now in
    let v = c.loop-v.v in
    let r = c.loop-v.invariant in
    let now : Vec (Option ℕ) Global → Type 0 = λ after. IsReversing before (v + 1) after.items in
    elim c.match-before-v.branch [
      | in-Some w ↦ (let u = w.in-Some.u in
          let some = w.in-Some.is in
          let inside : u < length c.loop-v.after.items = omega (arith, c.requires.long, c.requires.below v u some, r.long) in
          subst now (sym w.after-is) (IsReversing-put before v u c.loop-v.after.items some inside r))
      | in_default w ↦ subst now (sym w.after-is) (IsReversing-skip before v c.loop-v.after.items (none_from _ w.in_default.not-Some) r)
    ]
