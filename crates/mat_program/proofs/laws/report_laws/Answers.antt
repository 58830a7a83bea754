use Rattle.mat_program.proofs.Checks.{check_asked}
use Rattle.mat_program.proofs.laws.report_laws.Goals as goal

pub returns : goal.returns
returns c = record { check = check_asked }
