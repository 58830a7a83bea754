use Rattle.mat_union.proofs.SearchesOfRows.{rows_path_moves}
use Rattle.mat_union.proofs.laws.moves_keep_independence.Goals as goal

pub returns : goal.returns
returns c = λ n tests laws parts are rows within movable at. rows_path_moves laws are movable at
