use Rattle.mat_union.proofs.SearchesOfRows.{rows_stuck_cut}
use Rattle.mat_union.proofs.laws.stuck_gives_cut.Goals as goal

pub returns : goal.returns
returns c = λ n tests laws parts are rows within movable at. rows_stuck_cut laws are movable at
