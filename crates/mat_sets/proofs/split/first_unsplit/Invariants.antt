-- The parts add up to the weights of the elements so far.
use Rattle.mat_sets.proofs.Common.{◌≡◌, ℕ, ◌<◌, true, adds_up}
use Rattle.mat_sets.proofs.split.first_unsplit.Given as goal

abbrev pub invariant-loop-e : goal.invariant-loop-e
invariant-loop-e l = (e : ℕ) → e < l.e → adds_up l.first l.second l.weights e ≡ true
