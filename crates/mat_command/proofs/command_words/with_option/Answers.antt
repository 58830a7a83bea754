use Rattle.mat_command.proofs.Common.{arith, string_bytes}
use Rattle.mat_command.proofs.NoCommands.{no_option}
use Rattle.mat_command.proofs.command_words.with_option.Goals as goal

pub returns-in_default : goal.returns-in_default
returns-in_default c = no_option string_bytes c.args.command.now c.args.others.now (omega (arith, c.in_default.len_below))
