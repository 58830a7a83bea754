-- What is found is independent, and so a team: a set of people.
use Rattle.std.proofs.Common.{◌≡◌, ℕ, Bool, List, [], get_or, Some}
use Rattle.std.specs.Prelude.{slice_get}
use Rattle.std.proofs.lemmas.List.{get_or_default}
use Rattle.std.proofs.lemmas.Option.{slice_get-get_or}
use Rattle.mat_sets.specs.declared.weight.Weight.{Weight}
use Rattle.mat_laws.specs.CommonSets.{IsHeaviestCommon}
use Rattle.mat_laws.specs.Matroids.{IsMatroid}
use Rattle.mat_greedy.specs.Greedy.{AreHeaviestEach}
use Rattle.mat_split.specs.declared.ladder.Rung.{Rung}
use Rattle.mat_teams.specs.Teams.{AreTeams, AreTeamsOfRungs}

-- the heaviest sets of one matroid
pub heaviest_are_teams : {n : ℕ} {p : List ℕ → Bool} → IsMatroid n p → (w : ℕ → Weight) (sets : List (List ℕ)) → AreHeaviestEach n p w sets
    → AreTeams n sets
heaviest_are_teams laws w sets heaviest = λ k d below.
    rw (get_or_default sets k d [] below) (laws.sets (get_or sets k []) (heaviest.each k below).1.passes)

-- the rungs of a ladder
pub rungs_are_teams : {n : ℕ} {p q : List ℕ → Bool} → IsMatroid n p → (w : List Weight) (rungs : List Rung)
    → ((k : ℕ) (rung : Rung) → slice_get rungs k ≡ Some rung → IsHeaviestCommon p q w k rung.set) → AreTeamsOfRungs n rungs
rungs_are_teams laws w rungs heaviest = λ k d below.
    let rung = get_or rungs k d in
    laws.sets rung.set (heaviest k rung (slice_get-get_or rungs k d below)).in_first
