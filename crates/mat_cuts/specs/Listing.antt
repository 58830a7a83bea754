-- What the parts of the search do.
use Rattle.std.specs.Prelude.{◌≡◌, ◌≢◌, ◌⊎◌, ℕ, suc, ◌+◌, ◌<◌, ◌==◌, Bool, true, false, List, [], ◌∷◌, ◌++◌, length, Option, MatchOption, ℤ, pos, ◌≤ℤ◌, ◌<ℤ◌}
use Rattle.mat_cuts.specs.Limits.{never}
use Rattle.mat_sets.specs.Graphs.{ends_of}
use Rattle.mat_sets.specs.Search.{those_below}
use Rattle.mat_sets.specs.Sets.{is_member, without_one}
use Rattle.mat_cuts.specs.Costs.{cost_at}
use Rattle.mat_cuts.specs.Raising.{at, comes, falls, IsLeast, IsLowered}
use Rattle.mat_cuts.specs.declared.cut_weight.CutWeight.{CutWeight}
use Rattle.mat_cuts.specs.declared.growing.Raised.{Raised}
use Rattle.mat_cuts.specs.declared.joining.Path.{Path}

-- the set at the last place is listed, and its weight is taken from the arcs that pass
pub record IsListed (test : ℕ → Bool) (place : List ℕ) (last : ℕ) (least : ℤ) (before after : Raised) : Type 0 where
  pub cut : CutWeight
  pub weight_is : cut.weight ≡ least
  pub set_is : cut.set ≡ those_below (length place) (λ v. at place v == last)
  pub cuts : after.cuts.items ≡ before.cuts.items ++ cut ∷ []
  pub lowered : IsLowered (length before.reduced.items) test least (suc (length before.cuts.items))
      before.reduced.items after.reduced.items before.since.items after.since.items

-- where nothing is left at arc a, all stays; else the set at the last place is listed
abbrev pub IsPaid : (test : ℕ → Bool) (place : List ℕ) (last a : ℕ) → Raised → Raised → Type 0
IsPaid test place last a before after =
    ((cost_at before.reduced.items a ≤ℤ pos 0) × ((after.cuts.items ≡ before.cuts.items)
    × ((after.reduced.items ≡ before.reduced.items) × (after.since.items ≡ before.since.items))))
    ⊎ ((pos 0 <ℤ cost_at before.reduced.items a) × IsListed test place last (cost_at before.reduced.items a) before after)

-- arc a has the least cost among those that come to the last place, and nothing is left at it then
pub record IsSpent (arcs : List (ℕ × ℕ)) (place : List ℕ) (last : ℕ) (before after : Raised) (a : ℕ) : Type 0 where
  pub least : IsLeast (length arcs) (comes (ends_of arcs) place last) before.reduced.items a
  pub paid : IsPaid (comes (ends_of arcs) place last) place last a before after

-- that arc, or None where no arc comes to the last place
abbrev pub TellsSpent : (arcs : List (ℕ × ℕ)) (place : List ℕ) (last : ℕ) → Raised → Raised → Option ℕ → Type 0
TellsSpent arcs place last before after found =
    MatchOption found ((b : ℕ) → b < length arcs → comes (ends_of arcs) place last b ≡ false) (IsSpent arcs place last before after)

-- vertex t comes to the end of the path
pub record IsPushed (t : ℕ) (before after : Path) : Type 0 where
  pub fresh : after.fresh ≡ without_one before.fresh t
  pub last : after.last ≡ before.last + 1
  pub long : length after.place.items ≡ length before.place.items
  pub here : at after.place.items t ≡ before.last + 1
  pub others : (w : ℕ) → w ≢ t → at after.place.items w ≡ at before.place.items w

-- the sets from place `to` on are joined
pub record IsJoined (to : ℕ) (before after : Path) : Type 0 where
  pub fresh : after.fresh ≡ before.fresh
  pub last : after.last ≡ to
  pub long : length after.place.items ≡ length before.place.items
  pub fall : (w : ℕ) → at after.place.items w ≡ falls to before.last (at before.place.items w)

-- an unseen vertex comes to the end of the path; for another all sets from its place on are joined
abbrev pub IsFollowed : ℕ → Path → Path → Type 0
IsFollowed t before after =
    ((at before.place.items t ≡ never) × IsPushed t before after)
    ⊎ ((at before.place.items t ≢ never) × IsJoined (at before.place.items t) before after)

-- the path stays where there is one, and begins at an unseen vertex where there is one; else all vertices are seen
abbrev pub IsBegun : Path → Path → Bool → Type 0
IsBegun before after true =
    ((0 < before.last) × ((after.place.items ≡ before.place.items) × ((after.fresh ≡ before.fresh) × (after.last ≡ before.last))))
    ⊎ ((before.last ≡ 0) × ((t : ℕ) × (is_member t before.fresh ≡ true) × IsPushed t before after))
IsBegun before after false =
    (before.last ≡ 0) × ((before.fresh ≡ [])
    × ((after.place.items ≡ before.place.items) × ((after.fresh ≡ before.fresh) × (after.last ≡ before.last))))
