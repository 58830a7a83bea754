-- A bound on the vertices of the paths from some sources: each of them is a source or the head of an arc, and the bound is above all of these.
use Rattle.mat_flow.proofs.Common.{◌≡◌, ℕ, ◌<◌, true, ◌&&◌, eqb, List, [], ◌∷◌, ◌++◌, map, inl, inr, sym, arith, and_parts, eq-eqb, eqb-true, false≢true, or_cases, or_left, or_right, is_member, AllBelow-member, is_member-left, is_member-right, AllBelow-above_all, above_all, has_arc}

-- above the sources and the heads of the arcs
pub vertex_bound : List (ℕ × ℕ) → List ℕ → ℕ
vertex_bound arcs sources = above_all (sources ++ map (λ arc. arc.1) arcs)

head_listed : (arcs : List (ℕ × ℕ)) (u v : ℕ) → has_arc arcs u v ≡ true → is_member v (map (λ arc. arc.1) arcs) ≡ true
head_listed [] u v h = absurd (false≢true h)
head_listed (arc ∷ arcs) u v h = elim (or_cases (eqb arc.0 u && eqb arc.1 v) (has_arc arcs u v) h) [
  | inl here ↦ or_left (eqb v arc.1) _ (eq-eqb v arc.1 (sym (eqb-true arc.1 v (and_parts (eqb arc.0 u) (eqb arc.1 v) here).1)))
  | inr later ↦ or_right (eqb v arc.1) _ (head_listed arcs u v later)
]

below_bound : (vertices : List ℕ) (v : ℕ) → is_member v vertices ≡ true → v < above_all vertices
below_bound vertices v m = AllBelow-member (above_all vertices) vertices v (AllBelow-above_all vertices (above_all vertices) (omega arith)) m

pub heads_below : (arcs : List (ℕ × ℕ)) (sources : List ℕ) (u v : ℕ) → has_arc arcs u v ≡ true → v < vertex_bound arcs sources
unfolding vertex_bound
heads_below arcs sources u v h =
    below_bound (sources ++ map (λ arc. arc.1) arcs) v (is_member-right v sources (map (λ arc. arc.1) arcs) (head_listed arcs u v h))

pub sources_below : (arcs : List (ℕ × ℕ)) (sources : List ℕ) (v : ℕ) → is_member v sources ≡ true → v < vertex_bound arcs sources
unfolding vertex_bound
sources_below arcs sources v m = below_bound (sources ++ map (λ arc. arc.1) arcs) v (is_member-left v sources (map (λ arc. arc.1) arcs) m)
