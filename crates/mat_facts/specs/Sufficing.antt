-- Which lists of facts suffice. Each form says which facts stand in the list, in any order and beside any others, and how their numbers add up;
-- the laws in `laws` say what follows if the facts hold.
use Rattle.std.specs.Prelude.{◌≡◌, ℕ, suc, ◌+◌, ◌-◌, ◌*◌, ◌<◌, ◌≤◌, ◌⊎◌, true, List, [], ◌∷◌, length, Some, slice_get, slice_index, sum_by, Contains}
use Rattle.mat_sets.specs.FallingWeights.{heavy}
use Rattle.mat_sets.specs.Sets.{all_below, is_member, minus, IsSubset}
use Rattle.mat_sets.specs.Weights.{◌≼◌, negated, weight_sum, zero_weight}
use Rattle.mat_sets.specs.declared.weight.Weight.{Weight}
use Rattle.mat_union.specs.RightUnions.{AreFalling, level_at}
use Rattle.mat_union.specs.declared.best.Level.{Level}
use Rattle.mat_problem.specs.Instances.{Instance, pair, list, graph, rooted, coloured, table}
use Rattle.mat_cert.specs.Certificates.{Certificate, intersect, best, union_of, pack_any, pack, cover_never, cover, trees, trees_none}
use Rattle.mat_cert.specs.Certificates.{arbor, unreached, disjoint, disjoint_none, rainbow, assign}
use Rattle.mat_cert.specs.declared.answer.PlainRung.{PlainRung}
use Rattle.mat_facts.specs.Facts.{Fact, allowed, at_most, shared, few_above, full, in_parts, between, falls_apart, without_root, entered_by, none_gains}
use Rattle.mat_facts.specs.Answers.{rungs_of}
use Rattle.mat_facts.specs.Problems.{rule_count, size_of, weights_of}
use Rattle.mat_facts.specs.Terms.{list_at, step_at}

-- ---- sets that all rules allow

-- what k elements weigh at most: their weights are shared among the rules, for each rule k terms bound its shares, and all terms add up to at
-- most this
pub record BoundsSize (problem : Instance) (facts : List Fact) (k : ℕ) (most : Weight) : Type 0 where
  pub shares : List (List Weight)
  pub terms : List (List Weight)
  pub says_shares : Contains facts (shared shares)
  pub says_terms : (i : ℕ) → i < rule_count problem → Contains facts (few_above i (list_at shares i) (list_at terms i))
  pub long : (i : ℕ) → i < rule_count problem → length (list_at terms i) ≡ k
  pub total : weight_sum (step_at terms (rule_count problem)) (all_below k) ≼ most

-- of 0 elements: the empty set weighs nothing, which is at most this
abbrev pub IsNothing : ℕ → Weight → Type 0
IsNothing k most = (k ≡ 0) × (zero_weight ≼ most)

-- no set of k elements that all rules allow weighs more than this; of the empty set nothing needs to be said
abbrev pub ShowsNoHeavier : Instance → List Fact → ℕ → Weight → Type 0
ShowsNoHeavier problem facts k most = IsNothing k most ⊎ BoundsSize problem facts k most

-- what m elements and fewer weigh at most: such terms for m of them, of which no step is below 0
pub record BoundsSmaller (problem : Instance) (facts : List Fact) (m : ℕ) (most : Weight) : Type 0 where
  pub bound : BoundsSize problem facts m most
  pub rising : (l : ℕ) → l < m → zero_weight ≼ step_at bound.terms (rule_count problem) l

-- what m elements and more weigh at most: such terms for m of them, of which the last step is not above 0
pub record BoundsLarger (problem : Instance) (facts : List Fact) (m : ℕ) (most : Weight) : Type 0 where
  pub bound : BoundsSize problem facts m most
  pub some : 0 < m
  pub falling : step_at bound.terms (rule_count problem) (m - 1) ≼ zero_weight

-- each element is in one of some sets, one for each rule, of which the rules together allow fewer than m
pub record DividesElements (problem : Instance) (facts : List Fact) (m : ℕ) : Type 0 where
  pub sides : List (List ℕ)
  pub most : List ℕ
  pub says_most : (i : ℕ) → i < rule_count problem → Contains facts (at_most i (list_at sides i) (slice_index most i))
  pub each : (e : ℕ) → e < size_of problem → (i : ℕ) × (i < rule_count problem) × (is_member e (list_at sides i) ≡ true)
  pub few : sum_by (slice_index most) (all_below (rule_count problem)) < m

-- to a set of fewer than m elements, which the one rule allows, no element can be added
pub record HasFullSet (facts : List Fact) (m : ℕ) : Type 0 where
  pub set : List ℕ
  pub says_full : Contains facts (full set)
  pub few : length set < m

-- no set that all rules allow has m elements or more: there are fewer elements at all, or one of the two above
abbrev pub ShowsNoLarger : Instance → List Fact → ℕ → Type 0
ShowsNoLarger problem facts m = (size_of problem < m) ⊎ (DividesElements problem facts m ⊎ HasFullSet facts m)

-- no set of any size weighs more than this: not of k elements, not of fewer, and not of more. No law on how the greatest weights grow is needed
pub record BoundsEachSize (problem : Instance) (facts : List Fact) (k : ℕ) (most : Weight) : Type 0 where
  pub same : ShowsNoHeavier problem facts k most
  pub smaller : IsNothing (k - 1) most ⊎ BoundsSmaller problem facts (k - 1) most
  pub larger : ShowsNoLarger problem facts (suc k) ⊎ BoundsLarger problem facts (suc k) most

-- an answer with a set of each size: each is a heaviest one, and none is larger
pub record ShowsEachRung (problem : Instance) (rungs : List PlainRung) (facts : List Fact) : Type 0 where
  pub says_allowed : Contains facts allowed
  pub each : (k : ℕ) (rung : PlainRung) → slice_get rungs k ≡ Some rung → ShowsNoHeavier problem facts k rung.weight
  pub larger : ShowsNoLarger problem facts (length rungs)

-- ---- unions, packings and coverings

-- the elements of weight t and more that are not in the cut, and what the rules allow of the cut, are together no more than are in parts; of no
-- elements nothing needs to be said
pub record BoundsLevel (problem : Instance) (facts : List Fact) (t : Weight) (cut : List ℕ) : Type 0 where
  pub most : List ℕ
  pub held : ℕ
  pub inside : IsSubset cut (heavy (size_of problem) (weights_of problem) t)
  pub says_most : 0 < length cut → (i : ℕ) → i < rule_count problem → Contains facts (at_most i cut (slice_index most i))
  pub says_held : Contains facts (in_parts t held)
  pub enough : length (minus (heavy (size_of problem) (weights_of problem) t) cut) + sum_by (slice_index most) (all_below (rule_count problem)) ≤ held

-- parts of the most elements, and of these of the greatest weight: for each of the distinct weights no parts hold more elements of that weight
-- and more
pub record ShowsUnion (problem : Instance) (facts : List Fact) : Type 0 where
  pub says_allowed : Contains facts allowed
  pub levels : List Level
  pub falling : AreFalling (weights_of problem) levels
  pub each : (j : ℕ) → j < length levels → BoundsLevel problem facts (level_at levels j).at (level_at levels j).cut

-- one base more than so many would need more elements outside the cut than there are
pub record ShowsNoMoreBases (problem : Instance) (facts : List Fact) (bases : ℕ) : Type 0 where
  pub says_allowed : Contains facts allowed
  pub cut : List ℕ
  pub most : ℕ
  pub base : List ℕ
  pub says_most : Contains facts (at_most 0 cut most)
  pub says_base : Contains facts (full base)
  pub short : length (minus (all_below (size_of problem)) cut) < (bases + 1) * (length base - most)

-- one set fewer has no room for the cut
pub record ShowsNoFewerSets (problem : Instance) (facts : List Fact) (sets : ℕ) : Type 0 where
  pub cut : List ℕ
  pub most : ℕ
  pub says_most : Contains facts (at_most 0 cut most)
  pub long : (sets - 1) * most < length cut

-- ---- graphs

-- k trees need more edges between the groups than there are
pub record ShowsNoTrees (facts : List Fact) (k : ℕ) : Type 0 where
  pub groups : List (List ℕ)
  pub edges : List ℕ
  pub says_between : Contains facts (between groups edges)
  pub few : length edges < k * (length groups - 1)

-- k arborescences need more arcs into some vertices than there are
pub record ShowsNoArborescences (facts : List Fact) (k : ℕ) : Type 0 where
  pub set : List ℕ
  pub arcs : List ℕ
  pub says_set : Contains facts (without_root set)
  pub says_arcs : Contains facts (entered_by set arcs)
  pub few : length arcs < k

-- to join the groups that are left without the edges of some colours takes more edges of these colours than there are colours
pub record ShowsNoRainbowTree (facts : List Fact) : Type 0 where
  pub colours : List ℕ
  pub count : ℕ
  pub says_groups : Contains facts (falls_apart colours count)
  pub few : length colours + 1 < count

-- no arborescence on so many vertices costs less than this
abbrev pub ShowsNoCheaper : Instance → ℕ → List Fact → Weight → Type 0
ShowsNoCheaper problem vertices facts cost = ShowsNoHeavier problem facts (vertices - 1) (negated cost)

-- and no cost is below 0
pub record ShowsCheapestReach (problem : Instance) (vertices : ℕ) (facts : List Fact) (cost : Weight) : Type 0 where
  pub says_none_gains : Contains facts none_gains
  pub bound : ShowsNoCheaper problem vertices facts cost

-- ---- each form

-- the facts suffice for the answer to be best
abbrev pub Suffice : Instance → Certificate → List Fact → Type 0
Suffice (pair w first second) (intersect n rungs cut) facts = ShowsEachRung (pair w first second) (rungs_of (intersect n rungs cut)) facts
Suffice (list w matroids) (union_of n printed parts levels) facts = ShowsUnion (list w matroids) facts
Suffice (list w (matroid ∷ [])) (best n rungs) facts = ShowsEachRung (list w (matroid ∷ [])) rungs facts
Suffice (list w (matroid ∷ [])) (pack_any n) facts = Contains facts (at_most 0 (all_below (length w)) 0)
Suffice (list w (matroid ∷ [])) (pack n bases cut) facts = ShowsNoMoreBases (list w (matroid ∷ [])) facts (length bases)
Suffice (list w (matroid ∷ [])) (cover_never n loop_at) facts = Contains facts allowed × (e : ℕ) × Contains facts (at_most 0 (e ∷ []) 0)
Suffice (list w (matroid ∷ [])) (cover n sets cut) facts =
    Contains facts allowed × ((length sets ≡ 0) ⊎ ShowsNoFewerSets (list w (matroid ∷ [])) facts (length sets))
Suffice (graph vertices edges) (trees n sets) facts = Contains facts allowed
Suffice (graph vertices edges) (trees_none n k v classes) facts = ShowsNoTrees facts k
Suffice (rooted vertices root arcs costs) (arbor n cost tree first second) facts =
    Contains facts allowed × ShowsNoCheaper (rooted vertices root arcs costs) vertices facts cost
Suffice (rooted vertices root arcs costs) (unreached n v set) facts = ShowsNoArborescences facts 1
Suffice (rooted vertices root arcs costs) (disjoint n sets) facts = Contains facts allowed
Suffice (rooted vertices root arcs costs) (disjoint_none n k v set) facts = ShowsNoArborescences facts k
Suffice (coloured vertices colours edges colour_of w) (rainbow n v c rungs cut missing) facts =
    ShowsEachRung (coloured vertices colours edges colour_of w) (rungs_of (rainbow n v c rungs cut missing)) facts
Suffice (table rows columns cells w) (assign n r c rungs cut) facts =
    ShowsEachRung (table rows columns cells w) (rungs_of (assign n r c rungs cut)) facts
Suffice problem answer facts = ⊥
