-- The vertices so far that had a later place have the place `to`, and all others have kept theirs.
use Rattle.mat_cuts.proofs.Common.{◌≡◌, ◌<◌, ◌∙◌, length, refl, inl, inr, arith, get_or, get_or_default_zero}
use Rattle.mat_cuts.proofs.Loops.{falls-outside, falls-within, AreFalling-end, AreFalling-keep, AreFalling-set}
use Rattle.mat_cuts.proofs.joining.join.Goals as goal
use Rattle.mat_cuts.proofs.joining.join.Goals.{then-to-p+then-p-path, else-to-p, else-to-p-via-then-to-p+else-p-path, else-to-p-via-else-to-p}

pub loop-v-preserved : goal.loop-v-preserved
loop-v-preserved c =
    let to = c.args.to in
    let last = c.args.path.now.last in
    let before = c.args.path.now.place.items in
    let place = c.loop-v.path.place.items in
    let v = c.loop-v.v in
    let inside : v < length place = (let long = c.loop-v.invariant.falling.long in let t = c.loop-v-test.true in let e = c.len-v-end.ensures in omega arith) in
    let read : c.index-p.result.now ≡ get_or place v 0 = c.index-p.ensures ∙ get_or_default_zero place v c.index-p.result.now inside in
    let same = c.loop-v.invariant.last_same in
    elim c.if-to-p.branch [
      | then-to-p+then-p-path w ↦ rw w.path-is (record {
        falling = AreFalling-set to last before place v inside
            (falls-within to last _ (let a = w.if-to-p.true in omega arith) (let a = w.if-p-path.true in omega arith)) c.loop-v.invariant.falling;
        last_same = c.loop-v.invariant.last_same;
        fresh_same = c.loop-v.invariant.fresh_same;
      })
      | else-to-p w ↦ rw w.path-is (record {
        falling = AreFalling-keep to last before place v (falls-outside to last _ (elim w.else-to-p.branch [
          | else-to-p-via-then-to-p+else-p-path w2 ↦ inr (let n = w2.if-p-path.false in omega arith)
          | else-to-p-via-else-to-p w2 ↦ inl (let n = w2.if-to-p.false in omega arith)
        ])) c.loop-v.invariant.falling;
        last_same = c.loop-v.invariant.last_same;
        fresh_same = c.loop-v.invariant.fresh_same;
      })
    ]

pub returns : goal.returns
returns c = record {
  fresh = c.loop-v.invariant.fresh_same;
  last = refl;
  long = c.loop-v.invariant.falling.long;
  fall = AreFalling-end c.args.to c.args.path.now.last c.args.path.now.place.items c.loop-v.path.place.items c.loop-v.v
      (let t = c.loop-v-test.false in let e = c.len-v-end.ensures in let b = c.loop-v.auto.v-end in omega arith) c.loop-v.invariant.falling;
}
