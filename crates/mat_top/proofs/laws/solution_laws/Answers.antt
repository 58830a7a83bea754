use Rattle.mat_top.proofs.Accepted.{solution_accepted, solution_checked}
use Rattle.mat_solve.proofs.PrintedSolutions.{solution_short}
use Rattle.mat_top.proofs.laws.solution_laws.Goals as goal

pub returns : goal.returns
returns c = record { short = solution_short; accepted = solution_accepted; checked = solution_checked }
