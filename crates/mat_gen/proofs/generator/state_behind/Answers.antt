use Rattle.mat_gen.proofs.Common.{arith}
use Rattle.std.proofs.Math.Nat.{mod-lt}
use Rattle.mat_gen.proofs.Draws.{state_after-none, state_after-one}
use Rattle.mat_gen.proofs.generator.state_behind.Goals as goal

pub loop-init : goal.loop-init
loop-init c = (state_after-none c.args.state, c.requires)

pub loop-preserved : goal.loop-preserved
loop-preserved c = (state_after-one c.args.state c.loop.counter c.loop.next c.loop.invariant.0, mod-lt _ (omega arith))
