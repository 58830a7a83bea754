-- What an answer has, and that it is of the kind that was asked for, be there a better one or not.
use Rattle.std.specs.Prelude.{◌≡◌, ℕ, List, [], ◌∷◌, length, map, Some, slice_get}
use Rattle.mat_sets.specs.Families.{family_union}
use Rattle.mat_sets.specs.Graphs.{ends_of, IsSpanningArborescence}
use Rattle.mat_sets.specs.Weights.{weight}
use Rattle.mat_union.specs.Unions.{AreParts}
use Rattle.mat_packing.specs.Packings.{AreBases, IsCover}
use Rattle.mat_packing.specs.Trees.{AreTrees}
use Rattle.mat_branch.specs.Arborescences.{AreDisjointArborescences}
use Rattle.mat_any.specs.Trees.{is_independent}
use Rattle.mat_problem.specs.Instances.{Instance, pair, list, graph, rooted, coloured, table}
use Rattle.mat_cert.specs.Certificates.{Certificate, intersect, best, union_of, pack_any, pack, cover_never, cover, trees, trees_none}
use Rattle.mat_cert.specs.Certificates.{arbor, unreached, disjoint, disjoint_none, rainbow, assign}
use Rattle.mat_cert.specs.declared.answer.PlainRung.{PlainRung}
use Rattle.mat_cert.specs.declared.answer.PricedRung.{PricedRung}
use Rattle.mat_facts.specs.Problems.{AllAllow, weights_of}

-- the set of a rung and its weight, without its split
abbrev pub plain_rung : PricedRung → PlainRung
plain_rung rung = record { weight = rung.weight; set = rung.set }

-- the sets of an answer that has one of each size, from 0 on, and their weights
abbrev pub rungs_of : Certificate → List PlainRung
rungs_of (intersect n rungs cut) = map plain_rung rungs
rungs_of (best n rungs) = rungs
rungs_of (rainbow n v c rungs cut missing) = map plain_rung rungs
rungs_of (assign n r c rungs cut) = map plain_rung rungs
rungs_of answer = []

-- a set of k elements that all rules allow, with its weight
pub record IsAllowedRung (problem : Instance) (k : ℕ) (rung : PlainRung) : Type 0 where
  pub size : length rung.set ≡ k
  pub allow : AllAllow problem rung.set
  pub priced : rung.weight ≡ weight (weights_of problem) rung.set

-- the k-th rung has such a set of k elements
abbrev pub AreAllowedRungs : Instance → List PlainRung → Type 0
AreAllowedRungs problem rungs = (k : ℕ) (rung : PlainRung) → slice_get rungs k ≡ Some rung → IsAllowedRung problem k rung

-- the answer has the numbers of the problem, its sets are of the kind that was asked for, be there better ones or not, and its weights are theirs.
-- An answer that there are none has no sets
abbrev pub IsAllowed : Instance → Certificate → Type 0
IsAllowed (pair w first second) (intersect n rungs cut) = (n ≡ length w) × AreAllowedRungs (pair w first second) (map plain_rung rungs)
IsAllowed (list w matroids) (union_of n printed parts levels) =
    (n ≡ length w) × AreParts (map is_independent matroids) parts × (printed ≡ weight w (family_union parts))
IsAllowed (list w (matroid ∷ [])) (best n rungs) = (n ≡ length w) × AreAllowedRungs (list w (matroid ∷ [])) rungs
IsAllowed (list w (matroid ∷ [])) (pack_any n) = n ≡ length w
IsAllowed (list w (matroid ∷ [])) (pack n bases cut) = (n ≡ length w) × AreBases (length w) (is_independent matroid) bases
IsAllowed (list w (matroid ∷ [])) (cover_never n loop_at) = n ≡ length w
IsAllowed (list w (matroid ∷ [])) (cover n sets cut) = (n ≡ length w) × IsCover (length w) (is_independent matroid) sets
IsAllowed (graph vertices edges) (trees n sets) = (n ≡ length edges) × AreTrees vertices (length edges) (ends_of edges) sets
IsAllowed (graph vertices edges) (trees_none n k v classes) = (n ≡ length edges) × (v ≡ vertices)
IsAllowed (rooted vertices root arcs costs) (arbor n cost tree first second) =
    (n ≡ length arcs) × IsSpanningArborescence vertices (length arcs) (ends_of arcs) root tree × (cost ≡ weight costs tree)
IsAllowed (rooted vertices root arcs costs) (unreached n v set) = (n ≡ length arcs) × (v ≡ vertices)
IsAllowed (rooted vertices root arcs costs) (disjoint n sets) =
    (n ≡ length arcs) × AreDisjointArborescences vertices (length arcs) (ends_of arcs) root (length sets) sets
IsAllowed (rooted vertices root arcs costs) (disjoint_none n k v set) = (n ≡ length arcs) × (v ≡ vertices)
IsAllowed (coloured vertices colours edges colour_of w) (rainbow n v c rungs cut missing) =
    (n ≡ length edges) × (v ≡ vertices) × (c ≡ colours) × AreAllowedRungs (coloured vertices colours edges colour_of w) (map plain_rung rungs)
IsAllowed (table rows columns cells w) (assign n r c rungs cut) =
    (n ≡ length cells) × (r ≡ rows) × (c ≡ columns) × AreAllowedRungs (table rows columns cells w) (map plain_rung rungs)
IsAllowed problem answer = ⊥
