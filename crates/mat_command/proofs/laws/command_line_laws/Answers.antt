use Rattle.mat_command.proofs.Options.{same_task}
use Rattle.mat_command.proofs.laws.command_line_laws.Goals as goal

pub returns : goal.returns
returns c = record { option = same_task }
