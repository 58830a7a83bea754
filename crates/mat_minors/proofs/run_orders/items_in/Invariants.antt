use Rattle.mat_minors.proofs.Common.{◌≡◌, take, is_member}
use Rattle.std.specs.List.{filter}
use Rattle.mat_minors.proofs.run_orders.items_in.Given as goal

abbrev pub invariant-loop-x : goal.invariant-loop-x
invariant-loop-x l = l.items.items ≡ filter (λ x. is_member x l.set) (take l.x-index l.order)
