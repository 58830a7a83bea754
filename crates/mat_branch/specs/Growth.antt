-- What is kept while disjoint arborescences grow arc by arc, one after the other (Lovász 1976; Schrijver, chapter 53).
use Rattle.std.specs.Prelude.{◌≡◌, ℕ, suc, ◌+◌, ◌<◌, ◌≤◌, Bool, true, false, List, length, Option, MatchOption}
use Rattle.mat_sets.specs.Families.{indicator}
use Rattle.mat_sets.specs.Graphs.{entering, IsSpanningArborescence, Reaches, IsRootFree}
use Rattle.mat_sets.specs.Sets.{is_member, without_one, IsSet}

-- each root-free set is entered by at least m of these arcs
pub record AreEntered (vertices root : ℕ) (ends : ℕ → ℕ × ℕ) (live : List ℕ) (m : ℕ) : Type 0 where
  pub each : (cut : List ℕ) → IsRootFree vertices root cut → m ≤ length (entering ends live cut)

-- each root-free set that has no reached vertex is entered by at least m of these arcs
pub record AreEnteredOutside (vertices root : ℕ) (ends : ℕ → ℕ × ℕ) (live reached : List ℕ) (m : ℕ) : Type 0 where
  pub each : (cut : List ℕ) → IsRootFree vertices root cut → ((v : ℕ) → is_member v cut ≡ true → is_member v reached ≡ false)
      → m ≤ length (entering ends live cut)

-- a live arc from a reached vertex to one that is not, without which each root-free set is still entered by at least m live arcs
pub record IsTakable (vertices root : ℕ) (ends : ℕ → ℕ × ℕ) (live reached : List ℕ) (m a : ℕ) : Type 0 where
  pub live_arc : is_member a live ≡ true
  pub tail : is_member (ends a).0 reached ≡ true
  pub head : is_member (ends a).1 reached ≡ false
  pub below : (ends a).1 < vertices
  pub spare : AreEntered vertices root ends (without_one live a) m

-- without the arc some root-free set is entered by fewer than m live arcs
abbrev pub IsRefused : (vertices root : ℕ) → (ℕ → ℕ × ℕ) → List ℕ → ℕ → ℕ → Type 0
IsRefused vertices root ends live m a = AreEntered vertices root ends (without_one live a) m → ⊥

-- each of these arcs is refused
pub record AreRefused (vertices root : ℕ) (ends : ℕ → ℕ × ℕ) (live : List ℕ) (m : ℕ) (refused : List ℕ) : Type 0 where
  pub each : (a : ℕ) → is_member a refused ≡ true → IsRefused vertices root ends live m a

-- whether an arc can be spared, as a test tells: without it each root-free set is still entered by at least m live arcs; if not, it is refused
pub record TellsSpare (vertices root : ℕ) (ends : ℕ → ℕ × ℕ) (live : List ℕ) (m a : ℕ) (spare : Bool) : Type 0 where
  pub yes_means : spare ≡ true → AreEntered vertices root ends (without_one live a) m
  pub no_means : spare ≡ false → IsRefused vertices root ends live m a

-- a part of an arborescence: along `tree` the root reaches the vertices in `reached`, one more than there are arcs; the arcs of `tree` and
-- those that are live were live at first; each root-free set is entered by at least m live arcs, and by one more where no vertex of it is reached
pub record Grows (vertices arcs root : ℕ) (ends : ℕ → ℕ × ℕ) (first : List ℕ) (m : ℕ) (live reached tree : List ℕ) : Type 0 where
  pub live_set : IsSet arcs live
  pub tree_set : IsSet arcs tree
  pub reached_set : IsSet vertices reached
  pub start : is_member root reached ≡ true
  pub size : suc (length tree) ≡ length reached
  pub reaches : (v : ℕ) → is_member v reached ≡ true → Reaches ends tree root v
  pub parts : (a : ℕ) → indicator (is_member a tree) + indicator (is_member a live) ≤ indicator (is_member a first)
  pub entered : AreEntered vertices root ends live m
  pub outside : AreEnteredOutside vertices root ends live reached (suc m)

-- an arborescence was taken out of the live arcs, and each root-free set is still entered by at least m of them
pub record IsGrown (vertices arcs root : ℕ) (ends : ℕ → ℕ × ℕ) (first : List ℕ) (m : ℕ) (live tree : List ℕ) : Type 0 where
  pub live_set : IsSet arcs live
  pub spans : IsSpanningArborescence vertices arcs ends root tree
  pub parts : (a : ℕ) → indicator (is_member a tree) + indicator (is_member a live) ≤ indicator (is_member a first)
  pub entered : AreEntered vertices root ends live m

-- a root-free set that fewer than k of these arcs enter
pub record IsSeldomEnteredBy (vertices root : ℕ) (ends : ℕ → ℕ × ℕ) (live : List ℕ) (k : ℕ) (cut : List ℕ) : Type 0 where
  pub root_free : IsRootFree vertices root cut
  pub few : length (entering ends live cut) < k

-- such a set, or None where there is none
abbrev pub TellsSeldom : (vertices root : ℕ) → (ℕ → ℕ × ℕ) → List ℕ → ℕ → Option (List ℕ) → Type 0
TellsSeldom vertices root ends live k found = MatchOption found (AreEntered vertices root ends live k) (IsSeldomEnteredBy vertices root ends live k)
