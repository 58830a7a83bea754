use Rattle.mat_gen.proofs.Common.{◌≡◌, ◌<◌, ◌+◌, ◌*◌, state_after, numbers_drawn}
use Rattle.mat_gen.proofs.generator.numbers.Given as goal

-- the state before the next element's draw, and the numbers of the elements so far
abbrev pub invariant-loop : goal.invariant-loop
invariant-loop l = (l.before ≡ state_after l.seed (l.each * l.counter + l.place)) × (l.before < 2147483647)
    × (l.numbers.items ≡ numbers_drawn l.seed l.counter l.each l.place l.below)
