use Rattle.mat_gen.proofs.Common.{◌≡◌, ◌<◌, state_after}
use Rattle.mat_gen.proofs.generator.state_behind.Given as goal

abbrev pub invariant-loop : goal.invariant-loop
invariant-loop l = (l.next ≡ state_after l.state l.counter) × (l.next < 2147483647)
