use Rattle.mat_command.proofs.Common.{◌≡◌, rules, false, refl, bytes_eq, codes}
use Rattle.mat_command.proofs.command_words.with_three.Goals as goal

pub returns-in_default-clause-task : goal.returns-in_default-clause-task
returns-in_default-clause-task c =
    let sample : bytes_eq c.args.command.now (codes "sample") ≡ false = search rules in
    let witness : bytes_eq c.args.command.now (codes "witness") ≡ false = search rules in
    rw (sample, witness) refl
