-- Least spanning arborescences with a split of the costs that proves them least, and the vertices that the root does not reach (Schrijver,
-- chapter 52; the split is Frank's).
use Rattle.std.specs.Prelude.{◌≡◌, ℕ, ◌<◌, Bool, true, false, List, length}
use Rattle.mat_sets.specs.Graphs.{IsSpanningArborescence, Reaches, ends_of, IsUnentered}
use Rattle.mat_sets.specs.Sets.{is_member, all_below}
use Rattle.mat_sets.specs.Weights.{◌⊕◌, negated, weight_at, AreWeightsWithin}
use Rattle.mat_sets.specs.declared.weight.Weight.{Weight}
use Rattle.mat_laws.specs.Heaviest.{IsHeaviest}
use Rattle.mat_laws.specs.Ladders.{split_bound}
use Rattle.mat_graphic.specs.Forests.{is_graphic}
use Rattle.mat_arbor.specs.Heads.{is_entering_once}
use Rattle.mat_arbor.specs.declared.arbor.Arbor.{Arbor}
use Rattle.mat_arbor.specs.declared.arbor.Arbor.TheVariants.{Tree, Unreached}

-- a spanning arborescence, and two weights that add up to the negated cost of each arc. Under the first it is heaviest of its size in the
-- graphic matroid of the arcs without direction, and under the second in the matroid of sets that enter each vertex at most once, and
-- the root never
pub record IsSplitArborescence (vertices : ℕ) (arcs : List (ℕ × ℕ)) (costs : List Weight) (root : ℕ) (tree : List ℕ)
    (first second : List Weight) : Type 0 where
  pub spanning : IsSpanningArborescence vertices (length arcs) (ends_of arcs) root tree
  pub first_length : length first ≡ length arcs
  pub second_length : length second ≡ length arcs
  pub split : (a : ℕ) → a < length arcs → weight_at first a ⊕ weight_at second a ≡ negated (weight_at costs a)
  pub first_heaviest : IsHeaviest (is_graphic (length arcs) (ends_of arcs)) (weight_at first) tree
  pub second_heaviest : IsHeaviest (is_entering_once (length arcs) vertices (ends_of arcs) root) (weight_at second) tree

-- there is no spanning arborescence
abbrev pub HasNoArborescence : ℕ → List (ℕ × ℕ) → ℕ → Type 0
HasNoArborescence vertices arcs root = (X : List ℕ) → ¬ IsSpanningArborescence vertices (length arcs) (ends_of arcs) root X

-- a vertex set that is not empty, lacks the root and is entered by no arc, and that holds exactly the vertices to which no walk along arcs
-- leads from the root
pub record IsUnreachedSet (vertices : ℕ) (arcs : List (ℕ × ℕ)) (root : ℕ) (set : List ℕ) : Type 0 where
  pub unentered : IsUnentered vertices arcs root set
  pub unreached : (v : ℕ) → is_member v set ≡ true → ¬ Reaches (ends_of arcs) (all_below (length arcs)) root v
  pub reached : (v : ℕ) → v < vertices → is_member v set ≡ false → Reaches (ends_of arcs) (all_below (length arcs)) root v

-- a right answer: a spanning arborescence with its split, within the bound; or the set of the vertices that the root does not reach
abbrev pub IsRightArbor : ℕ → List (ℕ × ℕ) → List Weight → ℕ → Arbor → Type 0
IsRightArbor vertices arcs costs root (Tree tree first second) =
    IsSplitArborescence vertices arcs costs root tree first second × AreWeightsWithin (split_bound (length arcs)) first
    × AreWeightsWithin (split_bound (length arcs)) second
IsRightArbor vertices arcs costs root (Unreached set) = IsUnreachedSet vertices arcs root set

-- whether the answer is that there is none
abbrev pub is_unreached : Arbor → Bool
is_unreached (Tree tree first second) = false
is_unreached (Unreached set) = true
