use Rattle.mat_flow.proofs.Common.{subst, true, false, IsLed}
use Rattle.mat_flow.proofs.LeadingVertices.{AreLedFrom-more, AreLedFrom-passed}
use Rattle.mat_flow.proofs.leading.put_led.Goals as goal
use Rattle.mat_flow.proofs.leading.put_led.Goals.{then-is_led+in_ok-insert, else-is_led}

pub loop-u-preserved : goal.loop-u-preserved
loop-u-preserved g c =
    let n = c.args.count in
    let arc = g.R.SearchGraph.arc c.args.relation.now in
    let u = c.loop-u.u in
    elim c.if-is_led.branch [
      | then-is_led+in_ok-insert w ↦ rw (w.leading-is, w.came-is, w.in_ok-insert.ensures.ok)
          (AreLedFrom-more n arc u _ _ _ c.loop-u.invariant c.loop-u-test.true (subst (IsLed arc u c.loop-u.leading) w.if-is_led.true c.is_led.ensures))
      | else-is_led w ↦ rw (w.leading-is, w.came-is)
          (AreLedFrom-passed n arc u _ _ _ c.loop-u.invariant (subst (IsLed arc u c.loop-u.leading) w.if-is_led.false c.is_led.ensures))
    ]
