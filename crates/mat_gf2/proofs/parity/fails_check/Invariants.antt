-- The column passes the checks so far.
use Rattle.mat_gf2.proofs.Common.{◌≡◌, false, take, inner_product_is_one}
use Rattle.std.specs.List.{list_any}
use Rattle.mat_gf2.proofs.parity.fails_check.Given as goal

abbrev pub invariant-loop-check : goal.invariant-loop-check
invariant-loop-check l = list_any (λ check. inner_product_is_one check l.column) (take l.check-index l.checks) ≡ false
