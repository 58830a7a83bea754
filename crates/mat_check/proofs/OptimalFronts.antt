-- No better assignments, rainbow trees or arborescences exist than right ones: the first two are ladders, where no rainbow tree is there the
-- missing colours show it, and the split of an arborescence shows that it costs least.
use Rattle.mat_check.proofs.Common.{ℕ, ◌<◌, ◌≤◌, List, length, get_or, Option, Some, None, subst, arith, MatchOption, ends_of, IsGraph, Weight, split_is_least, column_at, row_at, is_once, IsMissingColours, IsRainbowTree, once_laws, graphic_laws, rooted, coloured, table, arbor, rainbow, assign}
use Rattle.mat_check.proofs.Common.{PricedRung, IsRightRainbow, IsOptimalLadder, IsOptimalRainbow}
use Rattle.mat_fronts.proofs.Ladders.{missing_colours_exclude}
use Rattle.mat_check.proofs.AnswerForms.{RightIsOptimal}
use Rattle.mat_check.proofs.OptimalLadders.{ladder_is_optimal}
use Rattle.mat_check.proofs.ValidGraphs.{coloured_is_graph, rooted_is_graph, root_is_below}

pub right_assignment_is_optimal : (rows columns : ℕ) (cells : List (ℕ × ℕ)) (w : List Weight) (n r c : ℕ) (rungs : List PricedRung) (cut : List ℕ)
    → RightIsOptimal (table rows columns cells w) (assign n r c rungs cut)
right_assignment_is_optimal rows columns cells w n r c rungs cut valid sound right =
    let best = ladder_is_optimal (once_laws n rows (row_at cells)) (once_laws n columns (column_at cells)) w rungs cut right.3 in
    subst (λ m. IsOptimalLadder (is_once m rows (row_at cells)) (is_once m columns (column_at cells)) w rungs) right.0 best

module _ (vertices colours : ℕ) (edges : List (ℕ × ℕ)) (colour_of : List ℕ) (g : IsGraph vertices edges) (rungs : List PricedRung) where
  abbrev colour : ℕ → ℕ
  colour e = get_or colour_of e 0

  none_is_rainbow : (missing : Option (List ℕ)) → MatchOption missing (vertices ≤ length rungs)
      (λ C. (length rungs < vertices) × IsMissingColours vertices (length edges) (ends_of edges) colours colour C)
      → length rungs < vertices → (X : List ℕ) → IsRainbowTree vertices (length edges) (ends_of edges) colour X → ⊥
  none_is_rainbow None long short X tree = absurd (omega (arith, long, short))
  none_is_rainbow (Some C) m short X tree = missing_colours_exclude vertices edges colours colour_of g C m.1 X tree

  rainbow_is_optimal : (w : List Weight) (cut : List ℕ) (missing : Option (List ℕ))
      → IsRightRainbow vertices (length edges) (ends_of edges) colours colour w rungs cut missing
      → IsOptimalRainbow vertices (length edges) (ends_of edges) colours colour w rungs
  rainbow_is_optimal w cut missing r = record {
    ladder = ladder_is_optimal (graphic_laws (length edges) (ends_of edges)) (once_laws (length edges) colours colour) w rungs cut r.ladder;
    none = none_is_rainbow missing r.missing_colours;
  }

pub right_rainbow_is_optimal : (vertices colours : ℕ) (edges : List (ℕ × ℕ)) (colour_of : List ℕ) (w : List Weight) (n v c : ℕ)
    (rungs : List PricedRung) (cut : List ℕ) (missing : Option (List ℕ))
    → RightIsOptimal (coloured vertices colours edges colour_of w) (rainbow n v c rungs cut missing)
right_rainbow_is_optimal vertices colours edges colour_of w n v c rungs cut missing valid sound right =
    rainbow_is_optimal vertices colours edges colour_of (coloured_is_graph vertices colours edges colour_of w valid) rungs w cut missing
    (subst (λ m. IsRightRainbow vertices m (ends_of edges) colours (λ e. get_or colour_of e 0) w rungs cut missing) right.0 right.3)

pub right_arborescence_is_optimal : (vertices root : ℕ) (arcs : List (ℕ × ℕ)) (costs : List Weight) (n : ℕ) (cost : Weight) (tree : List ℕ)
    (first second : List Weight) → RightIsOptimal (rooted vertices root arcs costs) (arbor n cost tree first second)
right_arborescence_is_optimal vertices root arcs costs n cost tree first second valid sound right =
    let g = rooted_is_graph vertices root arcs costs valid in
    let small = root_is_below vertices root arcs costs valid in
    record {
      spanning = right.2.spanning;
      priced = right.1;
      least = split_is_least vertices arcs root g small costs tree first second right.2;
    }
