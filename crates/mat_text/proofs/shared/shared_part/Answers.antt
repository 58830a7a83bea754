use Rattle.std.proofs.Common.{arith}
use Rattle.mat_words.specs.NameLists.{names_of}
use Rattle.mat_text.proofs.SharedParts.{nameless_first}
use Rattle.mat_text.proofs.shared.shared_part.Goals as goal

pub returns-then-first-len : goal.returns-then-first-len
returns-then-first-len c = nameless_first (names_of c.args.names.now) c.args.set.now c.args.side (omega arith)
