use Rattle.mat_flow.proofs.Common.{subst, true, false, AreLedFrom}
use Rattle.mat_flow.proofs.LeadingVertices.{AreLeadingAfter-more, AreLeadingAfter-none, AreLeading-all, AreLeading-ended}
use Rattle.mat_flow.proofs.leading.leading_vertices.Goals as goal

pub loop-init : goal.loop-init
loop-init g c =
    let r = g.R.SearchGraph in
    let of = c.args.relation.now in
    AreLeadingAfter-none c.args.count (r.arc of) (r.goal of) c.in_ok-leading.leading c.in_ok-leading.ensures

pub put_led-requires-clause-inside : goal.put_led-requires-clause-inside
put_led-requires-clause-inside g c = c.loop.invariant.below

pub returns-then-not-branch : goal.returns-then-not-branch
returns-then-not-branch g c =
    let r = g.R.SearchGraph in
    let of = c.args.relation.now in
    AreLeading-ended c.args.count (r.arc of) (r.goal of) c.loop.counter c.loop.leading c.loop.invariant _
    (subst (AreLedFrom c.args.count (r.arc of) c.args.count c.loop.leading c.put_led.new.leading) c.if-not-branch.true c.in_ok-put_led.ensures)

pub loop-preserved : goal.loop-preserved
loop-preserved g c =
    let r = g.R.SearchGraph in
    let of = c.args.relation.now in
    AreLeadingAfter-more c.args.count (r.arc of) (r.goal of) c.loop.counter c.loop.leading c.loop.invariant _
    (subst (AreLedFrom c.args.count (r.arc of) c.args.count c.loop.leading c.put_led.new.leading) c.if-not-branch.false c.in_ok-put_led.ensures)

pub returns : goal.returns
returns g c =
    let r = g.R.SearchGraph in
    let of = c.args.relation.now in
    AreLeading-all c.args.count (r.arc of) (r.goal of) c.loop.counter c.loop.leading c.loop.invariant c.loop-test.false
