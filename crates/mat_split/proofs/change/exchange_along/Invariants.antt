use Rattle.mat_split.proofs.Common.{◌≡◌, take, exchanged_along}
use Rattle.mat_split.proofs.change.exchange_along.Given as goal

abbrev pub invariant-loop-x : goal.invariant-loop-x
invariant-loop-x l = l.exchanged ≡ exchanged_along l.set (take l.x-index l.path)
