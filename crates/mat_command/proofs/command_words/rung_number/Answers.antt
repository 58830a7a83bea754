use Rattle.std.proofs.lemmas.Option.{IfSome_then}
use Rattle.mat_command.proofs.command_words.rung_number.Goals as goal

pub returns-clause-range : goal.returns-clause-range
returns-clause-range c = IfSome_then c.number_from.result c.number_from.ensures.range (λ k within. within.1)
