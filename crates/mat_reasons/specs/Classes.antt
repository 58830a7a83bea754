-- Classes of vertices.
use Rattle.std.specs.Prelude.{ℕ, Bool, ◌&&◌, List}
use Rattle.std.specs.List.{list_any}
use Rattle.mat_sets.specs.Sets.{is_member}

-- whether one of the classes holds both vertices
abbrev pub are_together : List (List ℕ) → ℕ → ℕ → Bool
are_together classes v w = list_any (λ class. is_member v class && is_member w class) classes
