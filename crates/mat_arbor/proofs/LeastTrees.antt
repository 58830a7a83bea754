-- What an answer proves: a spanning arborescence is a common independent set of the two matroids, and a split proves that it costs least.
use Rattle.mat_arbor.proofs.Common.{◌≡◌, ℕ, suc, ◌<◌, true, List, [], ◌∷◌, length, refl, sym, ◌∙◌, arith, and_parts, ints, IsSet, is_set, ◌⊕◌, ◌≼◌, negated, weight, weight_at, weight_sum, Weight, IsGraph, IsSpanningArborescence, ends_of, below_member, IsSet-from_test, pairs, is_forest, is_graphic}
use Rattle.mat_arbor.proofs.Common.{IsForest-from_test, AreEndsBelow, EntersOnce, is_entering_once, IsSplitArborescence}
use Rattle.mat_sets.proofs.WeightSums.{weight_sum-plus}
use Rattle.mat_arbor.proofs.CommonSets.{IsSet-entering_once, EntersOnce-from_test, test_from-EntersOnce, common_reaches, arborescence_enters_once, arborescence_is_forest}

module _ (vertices : ℕ) (arcs : List (ℕ × ℕ)) (root : ℕ) (g : IsGraph vertices arcs) where
  ends_below : (X : List ℕ) → IsSet (length arcs) X → AreEndsBelow (ends_of arcs) vertices X
  ends_below X s a m = (g.first a (below_member s m), g.second a (below_member s m))

  pub entering_once_means : (X : List ℕ) → is_entering_once (length arcs) vertices (ends_of arcs) root X ≡ true
      → IsSet (length arcs) X × EntersOnce (ends_of arcs) root X
  entering_once_means X h = (
    IsSet-entering_once (length arcs) vertices (ends_of arcs) root g.second X h,
    EntersOnce-from_test (length arcs) vertices (ends_of arcs) root g.second X h,
  )

  pub test_entering_once : (X : List ℕ) → IsSet (length arcs) X → EntersOnce (ends_of arcs) root X
      → is_entering_once (length arcs) vertices (ends_of arcs) root X ≡ true
  test_entering_once X s e = test_from-EntersOnce (length arcs) vertices (ends_of arcs) root g.second X s e

  -- a common independent set of one arc fewer than there are vertices is an arborescence
  pub arborescence_from_common : root < vertices → (X : List ℕ) → suc (length X) ≡ vertices
      → is_graphic (length arcs) (ends_of arcs) X ≡ true → is_entering_once (length arcs) vertices (ends_of arcs) root X ≡ true
      → IsSpanningArborescence vertices (length arcs) (ends_of arcs) root X
  arborescence_from_common small X size graphic heads =
      let tests = and_parts (is_set (length arcs) X) (is_forest (ends_of arcs) X) graphic in
      let s = IsSet-from_test (length arcs) X tests.0 in
      record {
        set = s;
        size = size;
        reached = common_reaches (length arcs) vertices (ends_of arcs) root small X s (ends_below X s)
            (IsForest-from_test (ends_of arcs) X s.rising tests.1) (entering_once_means X heads).1 size;
      }

  pub common_from_arborescence : root < vertices → (X : List ℕ) → IsSpanningArborescence vertices (length arcs) (ends_of arcs) root X
      → (is_graphic (length arcs) (ends_of arcs) X ≡ true) × (is_entering_once (length arcs) vertices (ends_of arcs) root X ≡ true)
  common_from_arborescence small X t =
      let below = ends_below X t.set in (
        arborescence_is_forest (length arcs) vertices (ends_of arcs) root small X below t,
        test_entering_once X t.set (arborescence_enters_once (length arcs) vertices (ends_of arcs) root small X below t),
      )

  -- the split proves that the arborescence costs least
  pub split_is_least : root < vertices → (costs : List Weight) (tree : List ℕ) (first second : List Weight)
      → IsSplitArborescence vertices arcs costs root tree first second → (other : List ℕ)
      → IsSpanningArborescence vertices (length arcs) (ends_of arcs) root other → weight costs tree ≼ weight costs other
  split_is_least small costs tree first second t other o =
      let common = common_from_arborescence small other o in
      let here = split_costs tree t.spanning.set in
      let there = split_costs other o.set in
      let same : length other ≡ length tree = omega (arith, o.size, t.spanning.size) in
      let first_most = t.first_heaviest.most other common.0 same in
      let second_most = t.second_heaviest.most other common.1 same in
      omega (arith, ints, pairs)
    where
      negated_sum : (Y : List ℕ) → weight_sum (λ a. negated (weight_at costs a)) Y ≡ negated (weight costs Y)
      negated_sum [] = refl
      negated_sum (y ∷ Y) = let later = negated_sum Y in omega (arith, ints, pairs)

      split_costs : (X : List ℕ) → IsSet (length arcs) X → weight first X ⊕ weight second X ≡ negated (weight costs X)
      split_costs X s =
          sym (weight_sum-plus (λ a. negated (weight_at costs a)) (weight_at first) (weight_at second) X
          (λ a m. sym (t.split a (below_member s m))))
          ∙ negated_sum X
