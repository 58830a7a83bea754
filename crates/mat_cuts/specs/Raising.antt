-- What is kept while the weights of cuts are raised: the cost that is left at each arc, since when it is spent, and the sets that were listed.
-- A path of sets grows backwards from an unreached vertex, each set joined by spent arcs to the next.
use Rattle.std.specs.Prelude.{◌≡◌, ◌≢◌, ℕ, suc, ◌<◌, ◌≤◌, ◌⊎◌, Bool, true, false, not, ◌&&◌, ◌==◌, if◌then◌else◌, nat_le, List, [], ◌∷◌, length, slice_index_or, Option, MatchOption, ℤ, pos, ◌+ℤ◌, ◌≤ℤ◌}
use Rattle.std.specs.List.{AllByRecursion}
use Rattle.mat_cuts.specs.Limits.{never}
use Rattle.mat_sets.specs.Limits.{largest_number}
use Rattle.mat_sets.specs.Graphs.{ends_of, enters}
use Rattle.mat_sets.specs.Sets.{is_member, IsSet}
use Rattle.mat_cuts.specs.Costs.{cost_at}
use Rattle.mat_cuts.specs.Cuts.{weight_on, weight_where, IsWeightedCut}
use Rattle.mat_cuts.specs.declared.cut_weight.CutWeight.{CutWeight}

-- the number at a place, 0 past the end
abbrev pub at : List ℕ → ℕ → ℕ
at xs i = slice_index_or xs i 0

-- early arcs lead from x to y: what holds of x, and goes from tail to head along each early arc, holds of y
pub record Leads (count : ℕ) (ends : ℕ → ℕ × ℕ) (since : List ℕ) (i x y : ℕ) : Type 0 where
  pub to : (test : ℕ → Bool)
      → ((a : ℕ) → a < count → at since a ≤ i → test (ends a).0 ≡ true → test (ends a).1 ≡ true)
      → test x ≡ true → test y ≡ true

-- the set was joined at time i, when no arc that enters it was spent
pub record IsNested (count : ℕ) (ends : ℕ → ℕ × ℕ) (since : List ℕ) (i : ℕ) (set : List ℕ) : Type 0 where
  pub late : (a : ℕ) → a < count → enters ends set a ≡ true → i < at since a
  pub joined : (x y : ℕ) → is_member x set ≡ true → is_member y set ≡ true → Leads count ends since i x y

-- so for each listed set, of which the first was listed at time i
abbrev pub AreNested : (count : ℕ) (ends : ℕ → ℕ × ℕ) (since : List ℕ) → ℕ → List CutWeight → Type 0
AreNested count ends since i [] = Unit {0}
AreNested count ends since i (c ∷ cuts) = IsNested count ends since i c.set × AreNested count ends since (suc i) cuts

-- the weights are paid by the costs, and nothing is left of the cost of an arc exactly where it has a time
pub record IsRaised (vertices : ℕ) (arcs : List (ℕ × ℕ)) (costs : List ℤ) (root : ℕ)
    (reduced : List ℤ) (since : List ℕ) (cuts : List CutWeight) : Type 0 where
  pub reduced_long : length reduced ≡ length arcs
  pub since_long : length since ≡ length arcs
  pub paid : (a : ℕ) → a < length arcs → cost_at costs a ≡ cost_at reduced a +ℤ weight_on (ends_of arcs) cuts a
  pub low : (a : ℕ) → a < length arcs → pos 0 ≤ℤ cost_at reduced a
  pub high : (a : ℕ) → a < length arcs → cost_at reduced a ≤ℤ pos largest_number
  pub spent : (a : ℕ) → a < length arcs → at since a < never → cost_at reduced a ≡ pos 0
  pub soon : (a : ℕ) → a < length arcs → cost_at reduced a ≡ pos 0 → at since a ≤ length cuts
  pub each : AllByRecursion (IsWeightedCut vertices root) cuts
  pub nested : AreNested (length arcs) (ends_of arcs) since 0 cuts

-- places of the vertices: 0 for those that the root reaches by early arcs, 1 to `last` for those on the path, 1000000 for those not seen
pub record IsPath (vertices : ℕ) (arcs : List (ℕ × ℕ)) (root : ℕ) (since : List ℕ) (now : ℕ)
    (place fresh : List ℕ) (last : ℕ) : Type 0 where
  pub long : length place ≡ vertices
  pub fresh_set : IsSet vertices fresh
  pub unseen : (v : ℕ) → is_member v fresh ≡ true → at place v ≡ never
  pub seen : (v : ℕ) → v < vertices → is_member v fresh ≡ false → at place v ≤ last
  pub root_place : at place root ≡ 0
  pub rooted : (v : ℕ) → v < vertices → at place v ≡ 0 → Leads (length arcs) (ends_of arcs) since now root v
  pub joined : (x y : ℕ) → x < vertices → y < vertices → 0 < at place y → at place y ≤ at place x → at place x ≤ last
      → Leads (length arcs) (ends_of arcs) since now x y
  pub some : 0 < last → (v : ℕ) × (v < vertices) × (at place v ≡ last)

-- where the places from j to `last` fall to j
unfoldable pub falls : ℕ → ℕ → ℕ → ℕ
falls j last p = if nat_le j p && nat_le p last then j else p

-- whether the arc leads to a vertex with the last place from one with another
abbrev pub comes : (ℕ → ℕ × ℕ) → List ℕ → ℕ → ℕ → Bool
comes ends place last a = at place (ends a).1 == last && not (at place (ends a).0 == last)

-- an arc that passes, with the least cost among those that pass
pub record IsLeast (count : ℕ) (test : ℕ → Bool) (reduced : List ℤ) (a : ℕ) : Type 0 where
  pub below : a < count
  pub passes : test a ≡ true
  pub least : (b : ℕ) → b < count → test b ≡ true → cost_at reduced a ≤ℤ cost_at reduced b

-- an arc of a list, with the least cost among its arcs
pub record IsLeastOf (among : List ℕ) (reduced : List ℤ) (a : ℕ) : Type 0 where
  pub member : is_member a among ≡ true
  pub least : (b : ℕ) → is_member b among ≡ true → cost_at reduced a ≤ℤ cost_at reduced b

-- that arc, or None where the list is empty
abbrev pub TellsLeastOf : (among : List ℕ) (reduced : List ℤ) → Option ℕ → Type 0
TellsLeastOf among reduced found = MatchOption found (among ≡ []) (IsLeastOf among reduced)

-- the least cost is taken from each arc that passes; an arc with nothing left gets the next time
pub record IsLowered (count : ℕ) (test : ℕ → Bool) (least : ℤ) (next : ℕ) (reduced left : List ℤ) (since later : List ℕ) : Type 0 where
  pub left_long : length left ≡ length reduced
  pub later_long : length later ≡ length since
  pub left_is : (a : ℕ) → a < count → cost_at reduced a ≡ cost_at left a +ℤ weight_where (test a) least
  pub later_is : (a : ℕ) → a < count → ((at later a ≡ at since a) × (test a ≡ true → cost_at left a ≢ pos 0))
      ⊎ ((at later a ≡ next) × ((test a ≡ true) × (cost_at left a ≡ pos 0)))

-- an arc that costs nothing is spent from the start
pub record IsFirstTime (cost : ℤ) (time : ℕ) : Type 0 where
  pub spent : time < never → cost ≡ pos 0
  pub soon : cost ≡ pos 0 → time ≡ 0
