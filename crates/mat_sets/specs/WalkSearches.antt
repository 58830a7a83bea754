-- What a search for a shortest walk finds (Schrijver, chapter 6).
use Rattle.std.specs.Prelude.{◌≡◌, ℕ, Bool, true, false}
use Rattle.mat_sets.specs.Sets.{is_member}
use Rattle.mat_sets.specs.Walks.{IsReachedSet, IsShortestWalk}
use Rattle.mat_sets.specs.declared.walk_search.WalkSearch.{WalkSearch}
use Rattle.mat_sets.specs.declared.walk_search.WalkSearch.TheVariants.{Reached, Walk}

-- a walk from a start to a goal with fewest vertices, or the set that the starts reach, without a goal
abbrev pub IsWalkSearch : (n : ℕ) (arc : ℕ → ℕ → Bool) (start goal : ℕ → Bool) → WalkSearch → Type 0
IsWalkSearch n arc start goal (Walk vertices) = IsShortestWalk n arc start goal vertices.items
IsWalkSearch n arc start goal (Reached reached) = IsReachedSet n arc start reached × ((v : ℕ) → is_member v reached ≡ true → goal v ≡ false)
