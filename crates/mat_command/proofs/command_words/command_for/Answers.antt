use Rattle.mat_command.proofs.Common.{arith, string_bytes}
use Rattle.std.proofs.lemmas.Bool.Decides.{nat_tests}
use Rattle.mat_command.proofs.NoCommands.{many_arguments, no_arguments}
use Rattle.mat_command.proofs.command_words.command_for.Goals as goal
use Rattle.mat_command.proofs.command_words.command_for.Goals.{in_default-via-then-arguments-lt1, in_default-via-else-arguments-lt1+else-arguments-lt2+else-arguments-lt3+else-arguments-lt4+else-arguments-lt5}

pub returns-in_default-clause-task : goal.returns-in_default-clause-task
returns-in_default-clause-task c = elim c.in_default.branch [
  | in_default-via-then-arguments-lt1 w ↦ no_arguments string_bytes c.args.command.now c.args.arguments.now (grind (arith, nat_tests))
  | in_default-via-else-arguments-lt1+else-arguments-lt2+else-arguments-lt3+else-arguments-lt4+else-arguments-lt5 w ↦
      many_arguments string_bytes c.args.command.now c.args.arguments.now (grind (arith, nat_tests))
]
