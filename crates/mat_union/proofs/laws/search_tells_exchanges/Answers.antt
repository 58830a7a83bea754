use Rattle.mat_union.proofs.SearchesOfRows.{rows_search_row}
use Rattle.mat_union.proofs.laws.search_tells_exchanges.Goals as goal

pub returns : goal.returns
returns c = λ n tests laws parts are rows x out movable at. rows_search_row laws are x out movable at
