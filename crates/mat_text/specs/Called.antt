-- What elements and vertices are called.
use Rattle.std.specs.Prelude.{◌≡◌, ℕ, ◌<◌, ◌≤◌, List, [], length, get_or}
use Rattle.mat_text.specs.declared.called.Name.{Name}
use Rattle.mat_text.specs.declared.called.Name.TheVariants.{Listed, Number}

-- what the number x is called: its name, or itself where it has none
abbrev pub IsCalled : List (List ℕ) → ℕ → Name → Type 0
IsCalled names x (Listed name) = (x < length names) × (name.now ≡ get_or names x [])
IsCalled names x (Number y) = (length names ≤ x) × (y ≡ x)
