-- Right answers.
use Rattle.std.specs.Prelude.{◌≡◌, ℕ, ◌<◌, ◌≤◌, Bool, List, [], ◌∷◌, length, map, Option, Some, MatchOption, slice_get, slice_index}
use Rattle.mat_sets.specs.Families.{family_union}
use Rattle.mat_sets.specs.Graphs.{ends_of, IsUnentered}
use Rattle.mat_sets.specs.Sets.{all_below}
use Rattle.mat_sets.specs.Weights.{weight, weight_at}
use Rattle.mat_sets.specs.declared.weight.Weight.{Weight}
use Rattle.mat_laws.specs.Matroids.{IsBase, IsLoop}
use Rattle.mat_laws.specs.Heaviest.{IsHeaviest}
use Rattle.mat_laws.specs.Ladders.{IsRung, IsCut}
use Rattle.mat_laws.specs.Ranks.{rank}
use Rattle.mat_graphic.specs.Forests.{is_graphic}
use Rattle.mat_union.specs.RightUnions.{IsRightUnion}
use Rattle.mat_union.specs.declared.best.Level.{Level}
use Rattle.mat_packing.specs.Packings.{IsRightCovering, IsRightPacking}
use Rattle.mat_packing.specs.Trees.{AreTrees, IsRightPartition}
use Rattle.mat_arbor.specs.Arborescences.{IsSplitArborescence}
use Rattle.mat_branch.specs.Arborescences.{AreDisjointArborescences, IsSeldomEntered}
use Rattle.mat_fronts.specs.Assignments.{column_at, row_at}
use Rattle.mat_fronts.specs.Once.{is_once}
use Rattle.mat_fronts.specs.Rainbow.{IsMissingColours}
use Rattle.mat_any.specs.Trees.{is_independent}
use Rattle.mat_problem.specs.Instances.{Instance, pair, list, graph, rooted, coloured, table}
use Rattle.mat_cert.specs.Certificates.{Certificate, intersect, best, union_of, pack_any, pack, cover_never, cover, trees, trees_none}
use Rattle.mat_cert.specs.Certificates.{arbor, unreached, disjoint, disjoint_none, rainbow, assign, last_rung}
use Rattle.mat_cert.specs.declared.answer.LevelLine.{LevelLine}
use Rattle.mat_cert.specs.declared.answer.PlainRung.{PlainRung}
use Rattle.mat_cert.specs.declared.answer.PricedRung.{PricedRung}

-- a rung of k elements is right, and its printed weight is that of its set
pub record IsRightPricedRung (n : ℕ) (p q : List ℕ → Bool) (w : List Weight) (k : ℕ) (rung : PricedRung) : Type 0 where
  pub priced : rung.weight ≡ weight w rung.set
  pub right : IsRung n p q w k rung.set rung.first rung.second

-- the rungs, one for each size from 0 on, are right, and the cut shows that there is no larger common independent set
pub record IsRightLadder (n : ℕ) (p q : List ℕ → Bool) (w : List Weight) (rungs : List PricedRung) (cut : List ℕ) : Type 0 where
  pub some : 0 < length rungs
  pub each : (k : ℕ) (rung : PricedRung) → slice_get rungs k ≡ Some rung → IsRightPricedRung n p q w k rung
  pub ends : IsCut n p q (last_rung rungs) cut

-- a rung has a heaviest independent set of k elements, and its printed weight is that of its set
pub record IsRightPlainRung (p : List ℕ → Bool) (w : List Weight) (k : ℕ) (rung : PlainRung) : Type 0 where
  pub priced : rung.weight ≡ weight w rung.set
  pub size : length rung.set ≡ k
  pub heaviest : IsHeaviest p (weight_at w) rung.set

-- the rungs, one for each size from 0 on, are right, and no element can be added to the last set
pub record AreRightRungs (n : ℕ) (p : List ℕ → Bool) (w : List Weight) (rungs : List PlainRung) : Type 0 where
  pub some : 0 < length rungs
  pub each : (k : ℕ) (rung : PlainRung) → slice_get rungs k ≡ Some rung → IsRightPlainRung p w k rung
  pub last : (rung : PlainRung) → slice_get rungs (last_rung rungs) ≡ Some rung → IsBase n p rung.set

-- ---- the others

-- a level of a right union
abbrev pub level_of : LevelLine → Level
level_of level = record { at = level.at; cut = level.cut }

-- disjoint sets, the i-th independent in the i-th matroid, with a cut for each of the distinct weights, and their weight together
pub record IsRightUnionAnswer (n : ℕ) (tests : List (List ℕ → Bool)) (w : List Weight) (printed : Weight) (parts : List (List ℕ))
    (levels : List LevelLine) : Type 0 where
  pub priced : printed ≡ weight w (family_union parts)
  pub right : IsRightUnion n tests w parts (map level_of levels)

-- a right ladder, and where its last set is no spanning tree, and there alone, colours that show that no spanning tree has pairwise different
-- colours
pub record IsRightRainbow (vertices n : ℕ) (ends : ℕ → ℕ × ℕ) (colours : ℕ) (colour : ℕ → ℕ) (w : List Weight) (rungs : List PricedRung)
    (cut : List ℕ) (missing : Option (List ℕ)) : Type 0 where
  pub ladder : IsRightLadder n (is_graphic n ends) (is_once n colours colour) w rungs cut
  pub missing_colours : MatchOption missing (vertices ≤ length rungs) (λ C. (length rungs < vertices) × IsMissingColours vertices n ends colours colour C)

-- the answer has the problem's numbers, and is right for it
abbrev pub IsRight : Instance → Certificate → Type 0
IsRight (pair w first second) (intersect n rungs cut) =
    (n ≡ length w) × IsRightLadder n (is_independent first) (is_independent second) w rungs cut
IsRight (list w matroids) (union_of n weight parts levels) =
    (n ≡ length w) × IsRightUnionAnswer n (map is_independent matroids) w weight parts levels
IsRight (list w (matroid ∷ [])) (best n rungs) = (n ≡ length w) × AreRightRungs n (is_independent matroid) w rungs
IsRight (list w (matroid ∷ [])) (pack_any n) = (n ≡ length w) × (rank (is_independent matroid) (all_below n) ≡ 0)
IsRight (list w (matroid ∷ [])) (pack n bases cut) = (n ≡ length w) × IsRightPacking n (is_independent matroid) bases cut
IsRight (list w (matroid ∷ [])) (cover_never n loop_at) = (n ≡ length w) × IsLoop n (is_independent matroid) loop_at
IsRight (list w (matroid ∷ [])) (cover n sets cut) = (n ≡ length w) × IsRightCovering n (is_independent matroid) sets cut
IsRight (graph vertices edges) (trees n sets) = (n ≡ length edges) × AreTrees vertices n (ends_of edges) sets
IsRight (graph vertices edges) (trees_none n k v classes) =
    (n ≡ length edges) × (v ≡ vertices) × IsRightPartition vertices n (ends_of edges) k classes
IsRight (rooted vertices root arcs costs) (arbor n cost tree first second) =
    (n ≡ length arcs) × (cost ≡ weight costs tree) × IsSplitArborescence vertices arcs costs root tree first second
IsRight (rooted vertices root arcs costs) (unreached n v set) = (n ≡ length arcs) × (v ≡ vertices) × IsUnentered vertices arcs root set
IsRight (rooted vertices root arcs costs) (disjoint n sets) =
    (n ≡ length arcs) × AreDisjointArborescences vertices n (ends_of arcs) root (length sets) sets
IsRight (rooted vertices root arcs costs) (disjoint_none n k v set) =
    (n ≡ length arcs) × (v ≡ vertices) × IsSeldomEntered vertices n (ends_of arcs) root k set
IsRight (coloured vertices colours edges colour_of w) (rainbow n v c rungs cut missing) =
    (n ≡ length edges) × (v ≡ vertices) × (c ≡ colours)
    × IsRightRainbow vertices n (ends_of edges) colours (slice_index colour_of) w rungs cut missing
IsRight (table rows columns cells w) (assign n r c rungs cut) =
    (n ≡ length cells) × (r ≡ rows) × (c ≡ columns)
    × IsRightLadder n (is_once n rows (row_at cells)) (is_once n columns (column_at cells)) w rungs cut
IsRight instance answer = ⊥
