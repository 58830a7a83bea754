-- The halves of the rungs so far are listed, and no more than these.
use Rattle.mat_check.proofs.Common.{◌≡◌, ◌≤◌, length, AreListed, halves_of}
use Rattle.mat_check.proofs.ladder.halves.list_halves.Given as goal

abbrev pub invariant-loop-k : goal.invariant-loop-k
invariant-loop-k l = record {
  count : length l.own.items ≡ l.k;
  few : length l.listed.items ≤ l.k;
  listed : AreListed (halves_of l.side l.rungs) l.listed.items l.own.items;
}
