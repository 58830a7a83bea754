-- What a gammoid keeps of an independent set (Schrijver, chapter 39).
use Rattle.std.specs.Prelude.{ℕ, Bool, List, slice_index_or}
use Rattle.mat_sets.specs.Sets.{is_member}
use Rattle.mat_flow.specs.Reroutes.{AreNextEnds, AreReroutes}
use Rattle.mat_linked.specs.Gammoids.{set_of_vertices}
use Rattle.mat_linked.specs.declared.kept_linking.KeptLinking.{KeptLinking}

-- disjoint paths to exactly the vertices of the set's members, what tells which of these ends can give way, and to which vertices there is a path more
pub record IsKeptLinking (vertices : ℕ) (arcs : List (ℕ × ℕ)) (sources targets base : List ℕ) (kept : KeptLinking) : Type 0 where
  pub reroutes : AreReroutes vertices arcs sources (set_of_vertices targets base) kept.reroutes
  pub next_ends : AreNextEnds vertices arcs sources (set_of_vertices targets base) kept.next_ends

-- whether the vertex of an element is one of a set
abbrev pub has_vertex_in : List ℕ → List ℕ → ℕ → Bool
has_vertex_in targets set y = is_member (slice_index_or targets y 0) set
