use Rattle.mat_count.proofs.Common.{refl, ◌∙◌, ◌<◌, ◌≤◌, length, arith, AllBelow-at, IsRunning-start}
use Rattle.mat_count.specs.UniformLaws.{uniform_laws}
use Rattle.mat_count.proofs.UniformRuns.{uniform_run-entered, uniform_run-passed}
use Rattle.mat_count.proofs.uniform.UniformMatroid.run.Goals as goal
use Rattle.mat_count.proofs.uniform.UniformMatroid.run.Goals.{then-len-self+in_ok-add, else-len-self}

pub loop-x-init : goal.loop-x-init
loop-x-init c = IsRunning-start _ _ _ (uniform_laws c.args.self.now.count c.args.self.now.cap).empty c.new-set.ensures.members

pub loop-x-preserved : goal.loop-x-preserved
loop-x-preserved c =
    let self = c.args.self.now in
    let i = c.loop-x.x-index in
    let small = AllBelow-at self.count c.args.order.now i c.requires.below c.loop-x-test.true in
    let count = c.len.ensures.count in
    elim c.if-len-self.branch [
      | then-len-self+in_ok-add w ↦ (
          let room : length c.loop-x.set < self.cap = (let test = w.if-len-self.true in omega arith) in
          uniform_run-entered self.count self.cap c.loop-x.invariant _ c.if-len-self.set c.loop-x-test.true refl small room
          (w.set-is ∙ w.in_ok-add.ensures.ok.1))
      | else-len-self w ↦ (
          let full : self.cap ≤ length c.loop-x.set = (let test = w.if-len-self.false in omega arith) in
          uniform_run-passed self.count self.cap c.loop-x.invariant _ c.if-len-self.set c.loop-x-test.true refl small full w.set-is)
    ]
