-- What weighted vertex sets leave of the costs that pay for them (Fulkerson 1974; Schrijver, chapter 52).
use Rattle.std.specs.Prelude.{◌≡◌, ℕ, ◌<◌, List, length, ℤ, ◌+ℤ◌}
use Rattle.mat_sets.specs.Graphs.{ends_of, IsUnentered}
use Rattle.mat_cuts.specs.Costs.{cost_at}
use Rattle.mat_cuts.specs.Cuts.{weight_on, AreRightCuts}
use Rattle.mat_cuts.specs.declared.cut_weight.CutWeight.{CutWeight}
use Rattle.mat_cuts.specs.declared.cut_weight.Priced.{Priced}
use Rattle.mat_cuts.specs.declared.cut_weight.Priced.TheVariants.{Tree, Unreached}

-- right cuts, and what is left of the cost of each arc by the weights of the sets that it enters
pub record ArePriced (vertices : ℕ) (arcs : List (ℕ × ℕ)) (costs : List ℤ) (root : ℕ)
    (tree : List ℕ) (cuts : List CutWeight) (left : List ℤ) : Type 0 where
  pub right : AreRightCuts vertices arcs costs root tree cuts
  pub left_long : length left ≡ length arcs
  pub left_is : (a : ℕ) → a < length arcs → cost_at costs a ≡ cost_at left a +ℤ weight_on (ends_of arcs) cuts a

-- right cuts with a tree and what they leave, or a root-free vertex set that no arc enters
abbrev pub IsRightlyPriced : (vertices : ℕ) (arcs : List (ℕ × ℕ)) (costs : List ℤ) (root : ℕ) → Priced → Type 0
IsRightlyPriced vertices arcs costs root (Tree tree cuts left) = ArePriced vertices arcs costs root tree cuts.items left.items
IsRightlyPriced vertices arcs costs root (Unreached set) = IsUnentered vertices arcs root set
