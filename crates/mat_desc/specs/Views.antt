-- What contracts see of how problems are written, and of problems with names.
use Rattle.std.specs.Prelude.{Option, Some, None}
use Rattle.std.specs.Borrow.{Bor}
use Rattle.mat_words.specs.NameLists.{names_of}
use Rattle.mat_words.specs.declared.names.Names.{Names}
use Rattle.mat_desc.specs.declared.read.notation.Notation as declared
use Rattle.mat_desc.specs.declared.read.notation.Notation.TheVariants as notations
use Rattle.mat_problem.specs.declared.named.Named.{Named}
use Rattle.mat_desc.specs.declared.write.problem.Lists.{Lists}
use Rattle.mat_desc.specs.Notations.{Naming, Notation, numbers, names, NamedInstance}
use Rattle.mat_desc.specs.Reading.{WrittenInstance}
use Rattle.mat_problem.specs.declared.problem.Problem.{Problem}
use Rattle.mat_problem.specs.Instances.{Instance}
use Rattle.mat_problem.specs.Views.{instance_of}

-- what lent names stand for
abbrev pub naming : Option (Bor Names) → Naming
naming None = None
naming (Some listed) = Some (names_of listed.now)

-- how elements and vertices are written, as plain data
abbrev pub notation_of : declared.Notation → Notation
notation_of notations.Numbers = numbers
notation_of (notations.Names elements vertices) = names (names_of elements) (names_of vertices)

-- a problem and how its description writes its elements and its vertices, as plain data
abbrev pub written_instance : Problem → declared.Notation → WrittenInstance
written_instance problem notation = record { instance = instance_of problem; notation = notation_of notation }

-- how a text is written, by numbers or by these names, as plain data
abbrev pub written_notation : Option Lists → Notation
written_notation None = numbers
written_notation (Some lists) = names (names_of lists.elements.now) (names_of lists.vertices.now)

-- a problem with names for its elements and its vertices, as plain data
abbrev pub named_with : Names × Names → Instance → NamedInstance
named_with listed instance = record { instance = instance; elements = names_of listed.0; vertices = names_of listed.1 }

-- the problem with its names, as plain data
abbrev pub named_instance : Named → NamedInstance
named_instance named = named_with (named.elements, named.vertices) (instance_of named.problem)
