-- Disjoint spanning trees of a graph, and partitions of its vertices that allow no more (Tutte; Nash-Williams; Schrijver, chapter 51).
use Rattle.std.specs.Prelude.{◌≡◌, ℕ, suc, ◌<◌, ◌*◌, ◌-◌, Bool, true, not, ◌&&◌, ◌==◌, List, length}
use Rattle.mat_sets.specs.Sets.{is_member}
use Rattle.mat_sets.specs.Families.{AreDisjoint, multiplicity}
use Rattle.mat_sets.specs.Search.{some_below, those_below}
use Rattle.mat_graphic.specs.Forests.{is_graphic}
use Rattle.mat_union.specs.Unions.{part_at}

-- whether these edges are a spanning tree: one fewer than the vertices, and independent in the graphic matroid
abbrev pub is_spanning_tree : ℕ → ℕ → (ℕ → ℕ × ℕ) → List ℕ → Bool
is_spanning_tree vertices count ends tree = (suc (length tree) == vertices) && is_graphic count ends tree

-- the same in words
pub record IsSpanningTree (vertices count : ℕ) (ends : ℕ → ℕ × ℕ) (tree : List ℕ) : Type 0 where
  pub size : suc (length tree) ≡ vertices
  pub forest : is_graphic count ends tree ≡ true

-- pairwise disjoint spanning trees
pub record AreTrees (vertices count : ℕ) (ends : ℕ → ℕ × ℕ) (trees : List (List ℕ)) : Type 0 where
  pub disjoint : AreDisjoint trees
  pub each : (i : ℕ) → i < length trees → IsSpanningTree vertices count ends (part_at trees i)

-- whether both ends of edge e are in one class
abbrev pub stays : (ℕ → ℕ × ℕ) → List (List ℕ) → ℕ → Bool
stays ends classes e = some_below (length classes) (λ q. is_member (ends e).0 (part_at classes q) && is_member (ends e).1 (part_at classes q))

-- the edges below `count` that have their ends in different classes
abbrev pub crossing : ℕ → (ℕ → ℕ × ℕ) → List (List ℕ) → List ℕ
crossing count ends classes = those_below count (λ e. not (stays ends classes e))

-- non-empty classes with each vertex in exactly one, and fewer crossing edges than k disjoint spanning trees have
pub record IsRightPartition (vertices count : ℕ) (ends : ℕ → ℕ × ℕ) (k : ℕ) (classes : List (List ℕ)) : Type 0 where
  pub filled : (q : ℕ) → q < length classes → 0 < length (part_at classes q)
  pub below : (q x : ℕ) → q < length classes → is_member x (part_at classes q) ≡ true → x < vertices
  pub once : (x : ℕ) → x < vertices → multiplicity x classes ≡ 1
  pub few : length (crossing count ends classes) < k * (length classes - 1)
