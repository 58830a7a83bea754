-- Spanning trees whose edges have pairwise different colours (Schrijver, chapter 41; Broersma and Li).
use Rattle.std.specs.Prelude.{◌≡◌, ℕ, suc, ◌+◌, ◌<◌, not, List, length, Option, MatchOption, slice_index}
use Rattle.mat_sets.specs.Graphs.{ends_of}
use Rattle.mat_sets.specs.Sets.{is_member, IsSet}
use Rattle.mat_sets.specs.Search.{those_below}
use Rattle.mat_sets.specs.declared.weight.Weight.{Weight}
use Rattle.mat_count.specs.Labels.{AreApart}
use Rattle.mat_graphic.specs.Forests.{IsForest, is_graphic, number_of_components}
use Rattle.mat_split.specs.Ladders.{IsLadder}
use Rattle.mat_split.specs.declared.ladder.Rung.{Rung}
use Rattle.mat_fronts.specs.Once.{is_once}

-- each edge has a colour below their number
pub record IsColouring (count colours : ℕ) (colour_of : List ℕ) : Type 0 where
  pub long : length colour_of ≡ count
  pub below : (e : ℕ) → e < count → slice_index colour_of e < colours

-- the edges whose colour is not in C
abbrev pub edges_without : ℕ → (ℕ → ℕ) → List ℕ → List ℕ
edges_without n colour C = those_below n (λ e. not (is_member (colour e) C))

-- colours without whose edges there are more components than one more than there are such colours
pub record IsMissingColours (vertices n : ℕ) (ends : ℕ → ℕ × ℕ) (colours : ℕ) (colour : ℕ → ℕ) (C : List ℕ) : Type 0 where
  pub set : IsSet colours C
  pub apart : length C + 1 < number_of_components vertices ends (edges_without n colour C)

-- a spanning tree, that is a forest of one edge fewer than there are vertices, with pairwise different colours
pub record IsRainbowTree (vertices n : ℕ) (ends : ℕ → ℕ × ℕ) (colour : ℕ → ℕ) (X : List ℕ) : Type 0 where
  pub set : IsSet n X
  pub size : suc (length X) ≡ vertices
  pub forest : IsForest ends X
  pub different : AreApart colour X

-- a ladder of the graphic matroid and of the partition matroid of the colours; and where its last set is no spanning tree, and there
-- alone, colours that show that there is none
pub record IsRainbowLadder (vertices : ℕ) (edges : List (ℕ × ℕ)) (colours : ℕ) (colour_of : List ℕ) (w : List Weight) (rungs : List Rung)
    (cut : List ℕ) (missing : Option (List ℕ)) : Type 0 where
  pub ladder : IsLadder (length edges) (is_graphic (length edges) (ends_of edges)) (is_once (length edges) colours (slice_index colour_of)) w rungs cut
  pub missing_colours : MatchOption missing (length rungs ≡ vertices)
      (λ C. (length rungs < vertices) × IsMissingColours vertices (length edges) (ends_of edges) colours (slice_index colour_of) C)
