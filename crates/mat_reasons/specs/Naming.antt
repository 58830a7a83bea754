-- What a class is called.
use Rattle.std.specs.Prelude.{ℕ, ◌⊎◌, List}
use Rattle.mat_text.specs.Shared.{IsShared}
use Rattle.mat_text.specs.declared.shared.Side.TheVariants.{Front, Back}

-- exactly the members of the class have this name at the front of their own, or exactly they have it at the back
abbrev pub IsNamedBy : List (List ℕ) → List ℕ → List ℕ → Type 0
IsNamedBy names class name = IsShared names class Front name ⊎ IsShared names class Back name
