-- What a ladder of the graphic matroid and of the colours tells.
use Rattle.mat_fronts.proofs.Common.{◌≡◌, ◌≢◌, ℕ, suc, ◌-◌, ◌<◌, true, false, List, [], ◌∷◌, length, get_or, map, replicate, ◌⊎◌, inl, inr, refl, sym, ap, ◌∙◌, subst, arith, pos, cases_eq, and_parts, and_from, or_left, is_member, IsRising, union, IsGraph, ends_of, below_member, IsRising-nil}
use Rattle.mat_fronts.proofs.Common.{IsRising-union, is_member-union, IsCut, IsRung, rank_is, one_each, is_forest, is_graphic, graphic_laws, IsForest-from_test, test_from-IsForest, rank_and_number, IsSubset-refl, AreLabelsOf, is_once, IsColouring, IsMissingColours, IsRainbowTree}
use Rattle.std.proofs.lemmas.Int.{ints}
use Rattle.std.proofs.lemmas.List.{length-replicate}
use Rattle.std.proofs.lemmas.List.Elements.{All-replicate}
use Rattle.std.proofs.lemmas.Option.{slice_get-get_or}
use Rattle.mat_sets.specs.Limits.{largest_weight}
use Rattle.mat_sets.specs.SetTests.{is_set}
use Rattle.mat_sets.specs.Sums.{IsWithin}
use Rattle.mat_sets.specs.Weights.{zero_weight, IsWeightWithin}
use Rattle.mat_sets.specs.declared.weight.Weight.{Weight}
use Rattle.mat_sets.proofs.MappedLists.{is_member-map, mapped_member}
use Rattle.mat_sets.proofs.SetTests.{IsSet-from_test, test_from-IsSet}
use Rattle.mat_count.specs.Partitions.{CappedClasses}
use Rattle.mat_count.proofs.LabelledMatroids.{by_labels, labels_read, test_of}
use Rattle.mat_graphic.proofs.ForestSizes.{some_component}
use Rattle.mat_sets.proofs.Truths.{or_none}
use Rattle.mat_split.specs.Ladders.{IsBoundedRung, IsLadder}
use Rattle.mat_split.specs.declared.ladder.Rung.{Rung}
use Rattle.mat_split.proofs.LaddersExist.{ladder_exists}
use Rattle.mat_fronts.specs.Assignments.{AreCells, IsAssignment, IsAssignmentLadder, row_at, column_at}
use Rattle.mat_fronts.proofs.OnceEach.{once_laws, once_apart, once_set, once_from}
use Rattle.mat_fronts.proofs.ColourCuts.{missing_excludes, missing_of_cut}

module _ (vertices : ℕ) (edges : List (ℕ × ℕ)) (colours : ℕ) (colour_of : List ℕ) where
  abbrev colour : ℕ → ℕ
  colour e = get_or colour_of e 0

  pub tree_is_common : IsColouring (length edges) colours colour_of → (X : List ℕ)
      → IsRainbowTree vertices (length edges) (ends_of edges) colour X
      → (suc (length X) ≡ vertices) × (is_graphic (length edges) (ends_of edges) X ≡ true) × (is_once (length edges) colours colour X ≡ true)
  tree_is_common k X t = (
    t.size,
    and_from (is_set (length edges) X) (is_forest (ends_of edges) X) (test_from-IsSet (length edges) X t.set)
        (test_from-IsForest (ends_of edges) X t.forest),
    once_from (length edges) colours colour k.below X t.set t.different,
  )

  pub tree_from_common : IsColouring (length edges) colours colour_of → (X : List ℕ) → suc (length X) ≡ vertices
      → is_graphic (length edges) (ends_of edges) X ≡ true → is_once (length edges) colours colour X ≡ true
      → IsRainbowTree vertices (length edges) (ends_of edges) colour X
  tree_from_common k X size graphic once =
      let tests = and_parts (is_set (length edges) X) (is_forest (ends_of edges) X) graphic in
      let s = IsSet-from_test (length edges) X tests.0 in
      record {
        set = s;
        size = size;
        forest = IsForest-from_test (ends_of edges) X s.rising tests.1;
        different = once_apart (length edges) colours colour k.below X once;
      }

  ends_below : IsGraph vertices edges → (e : ℕ) → e < length edges → ((ends_of edges e).0 < vertices) × ((ends_of edges e).1 < vertices)
  ends_below g e l = (g.first e l, g.second e l)

  pub missing_colours_exclude : IsGraph vertices edges → (C : List ℕ) → IsMissingColours vertices (length edges) (ends_of edges) colours colour C
      → (X : List ℕ) → IsRainbowTree vertices (length edges) (ends_of edges) colour X → ⊥
  missing_colours_exclude g C m X t =
      missing_excludes (length edges) vertices (ends_of edges) (ends_below g) colour colours C X m
      (and_from (is_set (length edges) X) (is_forest (ends_of edges) X) (test_from-IsSet (length edges) X t.set)
      (test_from-IsForest (ends_of edges) X t.forest)) t.different t.size

  -- a forest has fewer edges than there are vertices
  forest_few : IsGraph vertices edges → 0 < vertices → (X : List ℕ) → is_graphic (length edges) (ends_of edges) X ≡ true → length X < vertices
  forest_few g some X graphic =
      let laws = graphic_laws (length edges) (ends_of edges) in
      let s = laws.sets X graphic in
      omega (
        arith,
        (rank_is laws X s.rising).most X graphic (IsSubset-refl X),
        rank_and_number (ends_of edges) (length edges) vertices X s (λ e m. ends_below g e (below_member s m)),
        some_component (ends_of edges) vertices X s.rising some,
      )

  module _ (g : IsGraph vertices edges) (k : IsColouring (length edges) colours colour_of) where
    -- a rung of one edge fewer than there are vertices is a rainbow spanning tree
    pub tree_of_rung : (w : List Weight) (size : ℕ) (set : List ℕ) (first second : List Weight)
        → IsRung (length edges) (is_graphic (length edges) (ends_of edges)) (is_once (length edges) colours colour) w size set first second
        → suc size ≡ vertices → IsRainbowTree vertices (length edges) (ends_of edges) colour set
    tree_of_rung w size set first second r full =
        tree_from_common k set (omega (arith, r.size, full)) r.first_heaviest.passes r.second_heaviest.passes

    -- where no common independent set is as large, the colours on the cut show it
    pub missing_colours_of_cut : (size : ℕ) (cut C : List ℕ)
        → IsCut (length edges) (is_graphic (length edges) (ends_of edges)) (is_once (length edges) colours colour) size cut
        → AreLabelsOf colour cut C → IsRising C → suc size < vertices
        → IsMissingColours vertices (length edges) (ends_of edges) colours colour C
    missing_colours_of_cut size cut C c labels r few =
        missing_of_cut (length edges) vertices (ends_of edges) (ends_below g) colour colours size cut C k.below c labels r few

    module _ (some : 0 < vertices) (w : List Weight) (rungs : List Rung) (cut : List ℕ)
        (l : IsLadder (length edges) (is_graphic (length edges) (ends_of edges)) (is_once (length edges) colours colour) w rungs cut) where
      last_rung : (rung : Rung) × IsBoundedRung (length edges) (is_graphic (length edges) (ends_of edges)) (is_once (length edges) colours colour) w
          (length rungs - 1) rung
      last_rung =
          let rung = get_or rungs (length rungs - 1) (first rungs l.some) in
          (rung, l.each (length rungs - 1) rung (slice_get-get_or rungs (length rungs - 1) (first rungs l.some) (omega (arith, l.some))))
        where
          first : (rs : List Rung) → 0 < length rs → Rung
          first [] h = absurd (omega arith)
          first (r ∷ rs) h = r

      pub missing_of_ladder : (C : List ℕ) → AreLabelsOf colour cut C → IsRising C → length rungs ≢ vertices
          → (length rungs < vertices) × IsMissingColours vertices (length edges) (ends_of edges) colours colour C
      missing_of_ladder C labels r other =
          let last = last_rung.1.right in
          let few : length rungs < vertices = omega (arith, last.size, l.some, other, forest_few g some _ last.first_heaviest.passes) in
          (few, missing_colours_of_cut (length rungs - 1) cut C (l.last (length rungs - 1) (omega (arith, l.some))) labels r (omega (arith, few, l.some)))

      -- where it has as many rungs as there are vertices, the last set is a rainbow spanning tree
      pub tree_of_ladder : length rungs ≡ vertices → (X : List ℕ) × IsRainbowTree vertices (length edges) (ends_of edges) colour X
      tree_of_ladder same =
          (last_rung.0.set, tree_of_rung w (length rungs - 1) last_rung.0.set _ _ last_rung.1.right (omega (arith, same, l.some)))

  -- the labels of a set, as a set
  labels_of : (X : List ℕ) → AreLabelsOf colour X (union (map colour X) [])
  labels_of X = record {
    given = λ c m. mapped_member colour X c (sym (or_none (is_member c (map colour X))) ∙ (sym (is_member-union c (map colour X) []) ∙ m));
    held = λ e m. is_member-union (colour e) (map colour X) [] ∙ or_left (is_member (colour e) (map colour X)) false (is_member-map colour X e m);
  }

  pub tree_or_missing : IsGraph vertices edges → 0 < vertices → IsColouring (length edges) colours colour_of
      → ((X : List ℕ) × IsRainbowTree vertices (length edges) (ends_of edges) colour X)
      ⊎ ((C : List ℕ) × IsMissingColours vertices (length edges) (ends_of edges) colours colour C)
  tree_or_missing g some k =
      let n = length edges in
      let zeros = replicate n zero_weight in
      let q = ladder_exists (graphic_laws n (ends_of edges)) (once_laws n colours colour) zeros (length-replicate n zero_weight)
      (All-replicate (IsWeightWithin largest_weight) n zero_weight (none, none)) in
      elim (cases_eq (length q.0) vertices) [
        | inl same ↦ inl (tree_of_ladder g k some zeros q.0 q.1 q.2 same)
        | inr other ↦ inr (
          union (map colour q.1) [],
          (missing_of_ladder g k some zeros q.0 q.1 q.2 (union (map colour q.1) []) (labels_of q.1) (IsRising-union (map colour q.1) [] IsRising-nil) other).1,
        )
      ]
    where
      none : IsWithin largest_weight (pos 0)
      none = (omega (arith, ints), omega (arith, ints))

-- ---- assignments

pub assignment_common : (rows columns : ℕ) (cells : List (ℕ × ℕ)) (X : List ℕ) → AreCells rows columns cells → IsAssignment cells X
    → (is_once (length cells) rows (row_at cells) X ≡ true) × (is_once (length cells) columns (column_at cells) X ≡ true)
assignment_common rows columns cells X t a = (
  once_from (length cells) rows (row_at cells) t.row X a.set a.rows,
  once_from (length cells) columns (column_at cells) t.column X a.set a.columns,
)

pub assignment_from_common : (rows columns : ℕ) (cells : List (ℕ × ℕ)) (X : List ℕ) → AreCells rows columns cells
    → is_once (length cells) rows (row_at cells) X ≡ true → is_once (length cells) columns (column_at cells) X ≡ true → IsAssignment cells X
assignment_from_common rows columns cells X t p q = record {
  set = once_set (length cells) rows (row_at cells) t.row X p;
  rows = once_apart (length cells) rows (row_at cells) t.row X p;
  columns = once_apart (length cells) columns (column_at cells) t.column X q;
}

-- the ladder of the matroids as they are made
pub assignment_made : (rows columns : ℕ) (cells : List (ℕ × ℕ)) (w : List Weight) (rungs : List Rung) (cut row_labels column_labels : List ℕ)
    (by_row by_column : CappedClasses) → row_labels ≡ map (λ p. p.0) cells → column_labels ≡ map (λ p. p.1) cells
    → by_row ≡ by_labels (length row_labels) rows (λ e. get_or row_labels e 0) one_each
    → by_column ≡ by_labels (length column_labels) columns (λ e. get_or column_labels e 0) one_each
    → IsLadder by_row.count (test_of by_row) (test_of by_column) w rungs cut → IsAssignmentLadder rows columns cells w rungs cut
assignment_made rows columns cells w rungs cut row_labels column_labels by_row by_column r l rs ls h =
    subst (λ (m : CappedClasses). IsLadder (length cells) (is_once (length cells) rows (row_at cells)) (test_of m) w rungs cut)
    (ls ∙ labels_read (λ p. p.1) cells column_labels columns one_each refl l)
    (subst (λ (m : CappedClasses). IsLadder m.count (test_of m) (test_of by_column) w rungs cut)
    (rs ∙ labels_read (λ p. p.0) cells row_labels rows one_each refl r) h)

pub rainbow_made : (edges given : List (ℕ × ℕ)) (colours : ℕ) (colour_of : List ℕ) (w : List Weight) (rungs : List Rung) (cut : List ℕ)
    (classes : CappedClasses) → given ≡ edges → length colour_of ≡ length edges
    → classes ≡ by_labels (length colour_of) colours (λ e. get_or colour_of e 0) one_each
    → IsLadder (length given) (is_graphic (length given) (ends_of given)) (test_of classes) w rungs cut
    → IsLadder (length edges) (is_graphic (length edges) (ends_of edges)) (is_once (length edges) colours (λ e. get_or colour_of e 0)) w rungs cut
rainbow_made edges given colours colour_of w rungs cut classes g long s h =
    subst (λ (m : CappedClasses). IsLadder (length edges) (is_graphic (length edges) (ends_of edges)) (test_of m) w rungs cut)
    (s ∙ ap (λ (k : ℕ). by_labels k colours (λ e. get_or colour_of e 0) one_each) long)
    (subst (λ (es : List (ℕ × ℕ)). IsLadder (length es) (is_graphic (length es) (ends_of es)) (test_of classes) w rungs cut) g h)
