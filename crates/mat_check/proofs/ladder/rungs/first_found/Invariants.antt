-- No failure was passed over.
use Rattle.mat_check.proofs.Common.{◌≡◌, drop, first_in_order}
use Rattle.mat_check.proofs.ladder.rungs.first_found.Given as goal

abbrev pub invariant-loop-failure : goal.invariant-loop-failure
invariant-loop-failure l = first_in_order l.failures ≡ first_in_order (drop l.failure-index l.failures)
