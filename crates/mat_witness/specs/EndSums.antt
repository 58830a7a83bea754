-- What only contracts of private functions on forests cite: what edges add up to at each vertex.
use Rattle.std.specs.Prelude.{◌≡◌, ℕ, ◌+◌, ◌<◌, if◌then◌else◌, ◌==◌, List, [], ◌∷◌, length, slice_index}

-- what an edge with these ends adds at v: the amount where one end is v, and twice the amount where both are
abbrev pub at_ends : ℕ × ℕ → ℕ → ℕ → ℕ
at_ends pair amount v = (if pair.0 == v then amount else 0) + (if pair.1 == v then amount else 0)

-- what the members of X add at v, where edge e adds the amount f e at each of its ends: the degree of v where each amount is 1
unfoldable pub end_sum : (ℕ → ℕ) → (ℕ → ℕ × ℕ) → List ℕ → ℕ → ℕ
end_sum f ends [] v = 0
end_sum f ends (e ∷ X) v = at_ends (ends e) (f e) v + end_sum f ends X v

-- a table of these sums for all vertices
pub record IsSumTable (f : ℕ → ℕ) (ends : ℕ → ℕ × ℕ) (X : List ℕ) (vertices : ℕ) (table : List ℕ) : Type 0 where
  pub long : length table ≡ vertices
  pub at : (v : ℕ) → v < vertices → slice_index table v ≡ end_sum f ends X v
