-- Right answers to the question for k disjoint spanning arborescences (Edmonds 1973; Schrijver, chapter 53).
use Rattle.std.specs.Prelude.{ℕ, Bool, true, false, List}
use Rattle.mat_branch.specs.Arborescences.{AreDisjointArborescences, IsSeldomEntered}
use Rattle.mat_branch.specs.declared.branching.Branch.{Branch}
use Rattle.mat_branch.specs.declared.branching.Branch.TheVariants.{All, Cut}

-- so many disjoint arborescences, or a root-free set that fewer arcs enter
abbrev pub IsBranching : (vertices arcs : ℕ) (ends : ℕ → ℕ × ℕ) (root k : ℕ) → Branch → Type 0
IsBranching vertices arcs ends root k (All trees) = AreDisjointArborescences vertices arcs ends root k trees
IsBranching vertices arcs ends root k (Cut cut) = IsSeldomEntered vertices arcs ends root k cut

-- there are not so many disjoint spanning arborescences
abbrev pub HasNoArborescences : (vertices arcs : ℕ) (ends : ℕ → ℕ × ℕ) (root k : ℕ) → Type 0
HasNoArborescences vertices arcs ends root k = (trees : List (List ℕ)) → ¬ AreDisjointArborescences vertices arcs ends root k trees

-- whether the answer is that there are none
abbrev pub is_cut : Branch → Bool
is_cut (All trees) = false
is_cut (Cut cut) = true
