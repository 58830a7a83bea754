-- The rows of the matroid in which each set is independent are a table at the empty set.
use Rattle.std.proofs.Common.{List, [], ◌≡◌}
use Rattle.mat_sets.specs.SetTests.{is_set}
use Rattle.mat_laws.specs.declared.exchange.Exchange.{Exchange}
use Rattle.mat_laws.specs.Exchanges.{rows_of}
use Rattle.mat_exchange.specs.Tables.{IsTableAt}
use Rattle.mat_exchange.proofs.RowExchanges.{IsTableAt-rows_of}
use Rattle.mat_calls.specs.FreeLaws.{free_laws}

pub free_table : (t : List Exchange) → t ≡ rows_of 2 (is_set 2) [] → IsTableAt 2 [] t
free_table t told = rw told (IsTableAt-rows_of (free_laws 2) [] (free_laws 2).empty)
