-- What is kept of disjoint paths to tell which of their ends can give way to another vertex (Schrijver, chapters 9 and 16).
use Rattle.std.specs.Prelude.{◌≡◌, ◌↔◌, ◌<◌, ℕ, true, false, List, Option, Some, None}
use Rattle.mat_sets.specs.Sets.{is_member, with_one, without_one, AllBelow}
use Rattle.mat_sets.specs.Graphs.{IsGraph}
use Rattle.mat_flow.specs.LinkTables.{HasEnds}
use Rattle.mat_flow.specs.Paths.{HasPathsToEach}
use Rattle.mat_flow.specs.Trails.{IsReversed}
use Rattle.mat_flow.specs.declared.reroutes.Reroutes.{Reroutes}

-- the vertex after each vertex in some table of disjoint paths to exactly these ends
pub record AreReroutes (vertices : ℕ) (arcs : List (ℕ × ℕ)) (sources ends : List ℕ) (kept : Reroutes) : Type 0 where
  pub graph : IsGraph vertices arcs
  pub inside : AllBelow vertices sources
  pub before : List (Option ℕ)
  pub table : HasEnds vertices arcs sources ends before
  pub turned : IsReversed before kept.after.items

-- of the ends those in the set can give way to v, and there are no disjoint paths to all ends and to v
pub record GiveWay (arcs : List (ℕ × ℕ)) (sources ends : List ℕ) (v : ℕ) (set : List ℕ) : Type 0 where
  pub none_more : HasPathsToEach arcs sources (with_one ends v) → ⊥
  pub give_way : (e : ℕ) → is_member e ends ≡ true → (is_member e set ≡ true) ↔ HasPathsToEach arcs sources (with_one (without_one ends e) v)

-- none, where disjoint paths lead to all ends and to v; otherwise a set that tells which ends can give way to v
abbrev pub TellsWays : (arcs : List (ℕ × ℕ)) (sources ends : List ℕ) (v : ℕ) → Option (List ℕ) → Type 0
TellsWays arcs sources ends v None = HasPathsToEach arcs sources (with_one ends v)
TellsWays arcs sources ends v (Some set) = GiveWay arcs sources ends v set

-- of the vertices those that are no ends and to which one path more leads, beside paths to all ends
abbrev pub AreNextEnds : (vertices : ℕ) (arcs : List (ℕ × ℕ)) (sources ends found : List ℕ) → Type 0
AreNextEnds vertices arcs sources ends found = (v : ℕ) → v < vertices
    → (is_member v found ≡ true) ↔ ((is_member v ends ≡ false) × HasPathsToEach arcs sources (with_one ends v))
