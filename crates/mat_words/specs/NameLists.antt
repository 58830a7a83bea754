-- What contracts see of names that are kept.
use Rattle.std.specs.Prelude.{ℕ, List}
use Rattle.mat_words.specs.Names.{bytes_of}
use Rattle.mat_words.specs.declared.names.Names.{Names}

-- the names, in the order in which they were added
abbrev pub names_of : Names → List (List ℕ)
names_of kept = bytes_of kept.names.keys
