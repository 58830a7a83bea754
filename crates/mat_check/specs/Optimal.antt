-- Best answers, without splits and cuts (Schrijver, chapters 40 and 41).
use Rattle.std.specs.Prelude.{◌≡◌, ℕ, ◌<◌, ◌≤◌, Bool, true, List, [], ◌∷◌, length, map, Some, slice_get, slice_index}
use Rattle.mat_sets.specs.Graphs.{ends_of, IsSpanningArborescence}
use Rattle.mat_sets.specs.Weights.{◌≼◌, weight, weight_at}
use Rattle.mat_sets.specs.declared.weight.Weight.{Weight}
use Rattle.mat_laws.specs.Heaviest.{IsHeaviest}
use Rattle.mat_laws.specs.CommonSets.{IsHeaviestCommon}
use Rattle.mat_graphic.specs.Forests.{is_graphic}
use Rattle.mat_union.specs.RightUnions.{IsBestUnion}
use Rattle.mat_union.specs.Unions.{AreParts}
use Rattle.mat_packing.specs.Packings.{AreBases, IsCover}
use Rattle.mat_packing.specs.Trees.{AreTrees}
use Rattle.mat_branch.specs.Arborescences.{AreDisjointArborescences}
use Rattle.mat_fronts.specs.Assignments.{column_at, row_at}
use Rattle.mat_fronts.specs.Once.{is_once}
use Rattle.mat_fronts.specs.Rainbow.{IsRainbowTree}
use Rattle.mat_any.specs.Trees.{is_independent}
use Rattle.mat_problem.specs.Instances.{Instance, pair, list, graph, rooted, coloured, table}
use Rattle.mat_cert.specs.Certificates.{Certificate, intersect, best, union_of, pack_any, pack, cover_never, cover, trees, trees_none}
use Rattle.mat_cert.specs.Certificates.{arbor, unreached, disjoint, disjoint_none, rainbow, assign}
use Rattle.mat_cert.specs.declared.answer.PlainRung.{PlainRung}
use Rattle.mat_cert.specs.declared.answer.PricedRung.{PricedRung}

-- the set of each rung k is heaviest among the common independent sets of k elements, and no common independent set is larger
pub record IsOptimalLadder (p q : List ℕ → Bool) (w : List Weight) (rungs : List PricedRung) : Type 0 where
  pub heaviest : (k : ℕ) (rung : PricedRung) → slice_get rungs k ≡ Some rung → IsHeaviestCommon p q w k rung.set
  pub none_larger : (X : List ℕ) → p X ≡ true → q X ≡ true → length X < length rungs

-- the set of each rung k is heaviest among the independent sets of k elements, and no independent set is larger
pub record AreOptimalRungs (p : List ℕ → Bool) (w : List Weight) (rungs : List PlainRung) : Type 0 where
  pub size : (k : ℕ) (rung : PlainRung) → slice_get rungs k ≡ Some rung → length rung.set ≡ k
  pub heaviest : (k : ℕ) (rung : PlainRung) → slice_get rungs k ≡ Some rung → IsHeaviest p (weight_at w) rung.set
  pub none_larger : (X : List ℕ) → p X ≡ true → length X < length rungs

-- disjoint bases, and no more bases are disjoint
pub record AreMostBases (n : ℕ) (p : List ℕ → Bool) (bases : List (List ℕ)) : Type 0 where
  pub are : AreBases n p bases
  pub most : (others : List (List ℕ)) → AreBases n p others → length others ≤ length bases

-- independent sets that cover the elements, and no fewer do
pub record AreFewestSets (n : ℕ) (p : List ℕ → Bool) (sets : List (List ℕ)) : Type 0 where
  pub cover : IsCover n p sets
  pub fewest : (others : List (List ℕ)) → IsCover n p others → length sets ≤ length others

-- a spanning arborescence, and none costs less
pub record IsLeastArborescence (vertices : ℕ) (arcs : List (ℕ × ℕ)) (costs : List Weight) (root : ℕ) (cost : Weight) (tree : List ℕ) : Type 0 where
  pub spanning : IsSpanningArborescence vertices (length arcs) (ends_of arcs) root tree
  pub priced : cost ≡ weight costs tree
  pub least : (other : List ℕ) → IsSpanningArborescence vertices (length arcs) (ends_of arcs) root other → weight costs tree ≼ weight costs other

-- an optimal ladder, and where its last set has fewer edges than a spanning tree, no spanning tree has pairwise different colours
pub record IsOptimalRainbow (vertices n : ℕ) (ends : ℕ → ℕ × ℕ) (colours : ℕ) (colour : ℕ → ℕ) (w : List Weight) (rungs : List PricedRung) : Type 0 where
  pub ladder : IsOptimalLadder (is_graphic n ends) (is_once n colours colour) w rungs
  pub none : length rungs < vertices → (X : List ℕ) → ¬ IsRainbowTree vertices n ends colour X

-- no better answer of the command exists
abbrev pub IsOptimal : Instance → Certificate → Type 0
IsOptimal (pair w first second) (intersect n rungs cut) = IsOptimalLadder (is_independent first) (is_independent second) w rungs
IsOptimal (list w matroids) (union_of n weight parts levels) =
    AreParts (map is_independent matroids) parts × IsBestUnion (map is_independent matroids) w parts
IsOptimal (list w (matroid ∷ [])) (best n rungs) = AreOptimalRungs (is_independent matroid) w rungs
IsOptimal (list w (matroid ∷ [])) (pack_any n) = (I : List ℕ) → is_independent matroid I ≡ true → I ≡ []
IsOptimal (list w (matroid ∷ [])) (pack n bases cut) = AreMostBases n (is_independent matroid) bases
IsOptimal (list w (matroid ∷ [])) (cover_never n loop_at) = (sets : List (List ℕ)) → ¬ IsCover n (is_independent matroid) sets
IsOptimal (list w (matroid ∷ [])) (cover n sets cut) = AreFewestSets n (is_independent matroid) sets
IsOptimal (graph vertices edges) (trees n sets) = AreTrees vertices (length edges) (ends_of edges) sets
IsOptimal (graph vertices edges) (trees_none n k v classes) =
    (others : List (List ℕ)) → AreTrees vertices (length edges) (ends_of edges) others → length others < k
IsOptimal (rooted vertices root arcs costs) (arbor n cost tree first second) = IsLeastArborescence vertices arcs costs root cost tree
IsOptimal (rooted vertices root arcs costs) (unreached n v set) =
    (tree : List ℕ) → ¬ IsSpanningArborescence vertices (length arcs) (ends_of arcs) root tree
IsOptimal (rooted vertices root arcs costs) (disjoint n sets) =
    AreDisjointArborescences vertices (length arcs) (ends_of arcs) root (length sets) sets
IsOptimal (rooted vertices root arcs costs) (disjoint_none n k v set) =
    (trees : List (List ℕ)) → ¬ AreDisjointArborescences vertices (length arcs) (ends_of arcs) root k trees
IsOptimal (coloured vertices colours edges colour_of w) (rainbow n v c rungs cut missing) =
    IsOptimalRainbow vertices (length edges) (ends_of edges) colours (slice_index colour_of) w rungs
IsOptimal (table rows columns cells w) (assign n r c rungs cut) =
    IsOptimalLadder (is_once (length cells) rows (row_at cells)) (is_once (length cells) columns (column_at cells)) w rungs
IsOptimal instance answer = ⊥
