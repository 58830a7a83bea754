use Rattle.mat_count.proofs.Common.{IsRunning, is_uniform}
use Rattle.mat_count.proofs.uniform.UniformMatroid.run.Given as goal

abbrev pub invariant-loop-x : goal.invariant-loop-x
invariant-loop-x l = IsRunning (is_uniform l.self.count l.self.cap) l.order l.x-index l.set
