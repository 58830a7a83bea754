-- The reason that a right answer gives: a list of facts, each counted from the problem and the answer, of which the laws say that they hold and
-- suffice.
use Rattle.std.specs.Prelude.{ℕ, suc, ◌+◌, Bool, true, not, ◌&&◌, ◌||◌, ◌==◌, if◌then◌else◌, List, [], ◌∷◌, ◌++◌, length, map, flat_map, Option, None, Some, slice_get, slice_index}
use Rattle.mat_sets.specs.FallingWeights.{heavy}
use Rattle.mat_sets.specs.Families.{family_union}
use Rattle.mat_sets.specs.Graphs.{ends_of, entering}
use Rattle.mat_sets.specs.Sets.{all_below, intersection, minus}
use Rattle.mat_sets.specs.Weights.{is_below, weight_at, zero_weight}
use Rattle.mat_sets.specs.declared.weight.Weight.{Weight}
use Rattle.mat_laws.specs.Ranks.{rank}
use Rattle.mat_graphic.specs.Forests.{is_graphic, number_of_components}
use Rattle.mat_union.specs.Unions.{part_at}
use Rattle.mat_packing.specs.Trees.{crossing}
use Rattle.mat_any.specs.Trees.{is_independent}
use Rattle.mat_fronts.specs.Assignments.{column_at, row_at}
use Rattle.mat_fronts.specs.Once.{is_once}
use Rattle.mat_fronts.specs.Rainbow.{edges_without}
use Rattle.mat_problem.specs.Instances.{Instance, pair, list, graph, rooted, coloured, table}
use Rattle.mat_cert.specs.Certificates.{Certificate, intersect, best, union_of, pack_any, pack, cover_never, cover, trees, trees_none}
use Rattle.mat_cert.specs.Certificates.{arbor, unreached, disjoint, disjoint_none, rainbow, assign, last_rung}
use Rattle.mat_cert.specs.declared.answer.LevelLine.{LevelLine}
use Rattle.mat_cert.specs.declared.answer.PlainRung.{PlainRung}
use Rattle.mat_cert.specs.declared.answer.PricedRung.{PricedRung}
use Rattle.mat_facts.specs.Facts.{Fact, allowed, at_most, shared, few_above, full, in_parts, between, falls_apart, without_root, entered_by, none_gains}
use Rattle.mat_facts.specs.Terms.{falling_terms}

-- ---- what a size weighs at most

-- that each rule, from rule i on, has few above the shares of the set
abbrev pub terms_facts : ℕ → List (List Weight) → List ℕ → List Fact
terms_facts i [] set = []
terms_facts i (share ∷ shares) set = few_above i share (falling_terms (weight_at share) set) ∷ terms_facts (suc i) shares set

-- that no set of this size weighs more, by these shares
abbrev pub size_facts : List (List Weight) → List ℕ → List Fact
size_facts shares set = shared shares ∷ terms_facts 0 shares set

-- the two shares of a rung
abbrev pub shares_of : PricedRung → List (List Weight)
shares_of rung = rung.first ∷ rung.second ∷ []

-- ---- ladders

-- the sizes that show that the set of one size is heaviest of all, and that of the last heaviest of its size: these two, and those beside the first
abbrev pub told_sizes : ℕ → ℕ → ℕ → Bool
told_sizes heaviest last k = (k == heaviest || (k + 1 == heaviest || k == heaviest + 1)) || k == last

-- the facts of the sizes that are told; the first rung is that of k
abbrev pub sizes_facts : {R : Type 0} → (ℕ → Bool) → (R → List Fact) → ℕ → List R → List Fact
sizes_facts told facts k [] = []
sizes_facts told facts k (rung ∷ rungs) = (if told k then facts rung else []) ++ sizes_facts told facts (suc k) rungs

-- that no set is larger: what the first rule allows outside the cut, and the second inside
abbrev pub cut_facts : ℕ → (List ℕ → Bool) → (List ℕ → Bool) → List ℕ → List Fact
cut_facts n p q cut = at_most 0 (minus (all_below n) cut) (rank p (minus (all_below n) cut)) ∷ at_most 1 cut (rank q cut) ∷ []

-- that the set of a rung is a heaviest one of its size
abbrev pub rung_facts : PricedRung → List Fact
rung_facts rung = size_facts (shares_of rung) rung.set

-- that the sets of the sizes that are told are heaviest ones, and that none is larger
abbrev pub ladder_facts : (ℕ → Bool) → ℕ → (List ℕ → Bool) → (List ℕ → Bool) → List PricedRung → List ℕ → List Fact
ladder_facts told n p q rungs cut = allowed ∷ sizes_facts told rung_facts 0 rungs ++ cut_facts n p q cut

-- the same of one matroid, to whose elements their whole weights are given
abbrev pub whole_facts : List Weight → PlainRung → List Fact
whole_facts w rung = size_facts (w ∷ []) rung.set

-- that to the last set no element can be added
abbrev pub last_facts : Option PlainRung → List Fact
last_facts None = []
last_facts (Some rung) = full rung.set ∷ []

-- ---- unions

-- from the i-th matroid on, that each allows few of the cut
abbrev pub level_most_facts : ℕ → List (List ℕ → Bool) → List ℕ → List Fact
level_most_facts i [] cut = []
level_most_facts i (test ∷ tests) cut = at_most i cut (rank test cut) ∷ level_most_facts (suc i) tests cut

-- that no parts hold more elements of this level
abbrev pub level_facts : List (List ℕ → Bool) → List Weight → List (List ℕ) → LevelLine → List Fact
level_facts tests w parts level =
    in_parts level.at (length (intersection (family_union parts) (heavy (length w) w level.at))) ∷ level_most_facts 0 tests level.cut

-- ---- each form

-- that one set fewer has no room for the cut
abbrev pub cover_facts : (List ℕ → Bool) → Option (List ℕ) → List Fact
cover_facts p None = []
cover_facts p (Some cut) = at_most 0 cut (rank p cut) ∷ []

-- that without the edges of the missing colours there are many groups
abbrev pub colours_facts : ℕ → ℕ → (ℕ → ℕ × ℕ) → (ℕ → ℕ) → Option (List ℕ) → List Fact
colours_facts vertices n ends colour None = []
colours_facts vertices n ends colour (Some C) = falls_apart C (number_of_components vertices ends (edges_without n colour C)) ∷ []

-- that few arcs enter some vertices without the root
abbrev pub entered_facts : List (ℕ × ℕ) → List ℕ → List Fact
entered_facts arcs set = without_root set ∷ entered_by set (entering (ends_of arcs) (all_below (length arcs)) set) ∷ []

-- whether no cost is below 0
abbrev pub are_costs : List Weight → Bool
are_costs [] = true
are_costs (cost ∷ costs) = not (is_below cost zero_weight) && are_costs costs

-- and if so, that it is
abbrev pub costs_facts : List Weight → List Fact
costs_facts costs = if are_costs costs then none_gains ∷ [] else []

-- the facts that an answer gives; of an answer with a set of each size, for the sizes that are told
abbrev pub reason_of : (ℕ → Bool) → Instance → Certificate → List Fact
reason_of told (pair w first second) (intersect n rungs cut) = ladder_facts told (length w) (is_independent first) (is_independent second) rungs cut
reason_of told (list w matroids) (union_of n printed parts levels) =
    allowed ∷ flat_map (level_facts (map is_independent matroids) w parts) levels
reason_of told (list w (matroid ∷ [])) (best n rungs) =
    allowed ∷ sizes_facts told (whole_facts w) 0 rungs ++ last_facts (slice_get rungs (last_rung rungs))
reason_of told (list w (matroid ∷ [])) (pack_any n) = at_most 0 (all_below (length w)) 0 ∷ []
reason_of told (list w (matroid ∷ [])) (pack n bases cut) =
    allowed ∷ at_most 0 cut (rank (is_independent matroid) cut) ∷ full (part_at bases 0) ∷ []
reason_of told (list w (matroid ∷ [])) (cover_never n loop_at) = allowed ∷ at_most 0 (loop_at ∷ []) 0 ∷ []
reason_of told (list w (matroid ∷ [])) (cover n sets cut) = allowed ∷ cover_facts (is_independent matroid) cut
reason_of told (graph vertices edges) (trees n sets) = allowed ∷ []
reason_of told (graph vertices edges) (trees_none n k v classes) = between classes (crossing (length edges) (ends_of edges) classes) ∷ []
reason_of told (rooted vertices root arcs costs) (arbor n cost tree first second) =
    allowed ∷ size_facts (first ∷ second ∷ []) tree ++ costs_facts costs
reason_of told (rooted vertices root arcs costs) (unreached n v set) = entered_facts arcs set
reason_of told (rooted vertices root arcs costs) (disjoint n sets) = allowed ∷ []
reason_of told (rooted vertices root arcs costs) (disjoint_none n k v set) = entered_facts arcs set
reason_of told (coloured vertices colours edges colour_of w) (rainbow n v c rungs cut missing) =
    ladder_facts told (length edges) (is_graphic (length edges) (ends_of edges)) (is_once (length edges) colours (slice_index colour_of)) rungs cut
    ++ colours_facts vertices (length edges) (ends_of edges) (slice_index colour_of) missing
reason_of told (table rows columns cells w) (assign n r c rungs cut) =
    ladder_facts told (length cells) (is_once (length cells) rows (row_at cells)) (is_once (length cells) columns (column_at cells)) rungs cut
reason_of told problem answer = []
