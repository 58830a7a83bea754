-- The numbers so far are parity checks of the span of the basis, one for each start.
use Rattle.mat_gf2.proofs.Common.{◌≡◌, length, All, IsParityCheck}
use Rattle.mat_gf2.proofs.parity.parity_checks.Given as goal

abbrev pub invariant-loop-start : goal.invariant-loop-start
invariant-loop-start l = record {
  long : length l.checks.items ≡ l.start-index;
  checks : All (IsParityCheck l.basis) l.checks.items;
}
