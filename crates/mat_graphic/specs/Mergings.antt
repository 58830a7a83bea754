-- The algorithm's own notions, by which its private functions are told: components that are merged, edge after edge. No public contract
-- but that of what is kept rests on them.
use Rattle.std.specs.Prelude.{ℕ, min, ◌||◌, ◌==◌, if◌then◌else◌, List, [], ◌∷◌}

-- the least vertex of a component where it was r, after the components with the least vertices p and q have become one
abbrev pub merged : ℕ → ℕ → ℕ → ℕ
merged p q r = if r == p || r == q then min p q else r

-- the least vertex of the component of v: without edges v itself, and each edge makes one of the components of its ends
unfoldable pub least_merged : (ℕ → ℕ × ℕ) → List ℕ → ℕ → ℕ
least_merged ends [] v = v
least_merged ends (e ∷ X) v = merged (least_merged ends X (ends e).0) (least_merged ends X (ends e).1) (least_merged ends X v)
