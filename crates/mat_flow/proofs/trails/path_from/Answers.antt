use Rattle.mat_flow.proofs.Common.{arith, length_push}
use Rattle.mat_flow.proofs.TrailReading.{IsReading-next, at_below, length-reading}
use Rattle.mat_flow.proofs.trails.path_from.Goals as goal

pub bounds : goal.bounds
bounds c =
    at_below c.args.after.now c.args.start c.requires.first c.requires.once c.requires.start c.requires.below c.loop-at.path.items c.loop-at.at
    c.loop-at.invariant

pub loop-at-smaller : goal.loop-at-smaller
loop-at-smaller c =
    let path = c.loop-at.path.items in
    let more = IsReading-next c.args.after.now c.args.start path c.loop-at.at c.in-Some.next c.in-Some.is c.loop-at.invariant in
    let few = length-reading c.args.after.now c.args.start c.requires.first c.requires.once c.requires.start c.requires.below _ _ more in
    omega (arith, few, length_push path c.in-Some.next, c.in_ok-push.ensures.len, c.push.new.self.ok, c.loop-at.path.ok)
