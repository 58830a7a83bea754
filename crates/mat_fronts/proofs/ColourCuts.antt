-- Colours that show that there is no rainbow spanning tree: why they show it, and why the colours on a cut of the ladder do.
-- Idea of the first: such a tree has at most |C| edges with colours of C, and its other edges are a forest among the others.
-- Idea of the second: the edges of other colours lie outside the cut, so their rank is at most that of the rest, and the rank of the cut
-- is at least the number of its colours.
use Rattle.mat_fronts.proofs.Common.{◌≡◌, ◌≢◌, ℕ, suc, ◌+◌, ◌<◌, ◌≤◌, true, false, not, ◌&&◌, ltb, List, length, sym, ap, ◌∙◌, arith, lt-ltb, and_parts, and_from, both_ways, false_from_ne_true, not-true, is_member, IsRising, IsSet, IsSubset, all_below, minus, AllBelow-from_members}
use Rattle.mat_fronts.proofs.Common.{IsRising-all_below, below_member, is_member-all_below, IsRising-minus, is_member-filter, is_member-minus, minus-IsSubset, rank, IsCut, rank_is, rank-subset, AreApart, length-one_to_one, is_graphic, number_of_components, graphic_laws, rank_and_number, AreLabelsOf}
use Rattle.mat_fronts.proofs.Common.{is_once, IsMissingColours, edges_without}
use Rattle.std.specs.List.{filter}
use Rattle.mat_sets.proofs.Cardinalities.{length-minus_subset}
use Rattle.mat_sets.proofs.Filters.{IsRising-filter}
use Rattle.mat_sets.proofs.Search.{IsSet-those_below, is_member-those_below}
use Rattle.mat_fronts.proofs.OnceEach.{length-labels}

module _ (n vertices : ℕ) (ends : ℕ → ℕ × ℕ) (ends_below : (e : ℕ) → e < n → ((ends e).0 < vertices) × ((ends e).1 < vertices)) (label : ℕ → ℕ) where
  without_member : (C : List ℕ) (e : ℕ) → is_member e (edges_without n label C) ≡ (ltb e n && not (is_member (label e) C))
  without_member C e = is_member-those_below e n (λ e. not (is_member (label e) C))

  without_set : (C : List ℕ) → IsSet n (edges_without n label C)
  without_set C = IsSet-those_below n (λ e. not (is_member (label e) C))

  without_rank : (C : List ℕ) → rank (is_graphic n ends) (edges_without n label C) + number_of_components vertices ends (edges_without n label C) ≡ vertices
  without_rank C = rank_and_number ends n vertices (edges_without n label C) (without_set C) (λ e m. ends_below e (below_member (without_set C) m))

  -- a forest of pairwise different colours has at most |C| edges more than the rank of the edges of other colours
  pub rainbow_bound : (C X : List ℕ) → IsRising C → is_graphic n ends X ≡ true → AreApart label X
      → length X ≤ length C + rank (is_graphic n ends) (edges_without n label C)
  rainbow_bound C X rc graphic apart =
      let laws = graphic_laws n ends in
      let s = laws.sets X graphic in
      let coloured = filter (λ e. is_member (label e) C) X in
      let others = minus X coloured in
      let r : IsRising coloured = IsRising-filter (λ e. is_member (label e) C) X s.rising in
      let ro : IsRising others = IsRising-minus X coloured s.rising in
      let parts : (e : ℕ) → is_member e coloured ≡ true → (is_member e X ≡ true) × (is_member (label e) C ≡ true) =
      λ e m. and_parts (is_member e X) (is_member (label e) C) (sym (is_member-filter (λ e. is_member (label e) C) e X) ∙ m) in
      let inside : IsSubset coloured X = record { inside = λ e m. (parts e m).0 } in
      let first = length-one_to_one label coloured C r rc (λ e m. (parts e m).1)
      (λ e f m o same. apart.apart e f (parts e m).0 (parts f o).0 same) in
      let free : IsSubset others (edges_without n label C) = record {
        inside = λ e m.
            let p = and_parts (is_member e X) (not (is_member e coloured)) (sym (is_member-minus e X coloured) ∙ m) in
            let out : is_member (label e) C ≡ false = false_from_ne_true _ (λ h. both_ways _ (not-true _ p.1)
            (is_member-filter (λ e. is_member (label e) C) e X ∙ and_from (is_member e X) (is_member (label e) C) p.0 h)) in
            without_member C e ∙ and_from (ltb e n) (not (is_member (label e) C)) (lt-ltb e n (below_member s p.0)) (ap not out);
      } in
      let second = (rank_is laws (edges_without n label C) (without_set C).rising).most others
      (laws.subsets others X ro (minus-IsSubset X coloured) graphic) free in
      omega (arith, first, second, length-minus_subset X coloured s.rising r inside)

  pub missing_excludes : (colours : ℕ) (C X : List ℕ) → IsMissingColours vertices n ends colours label C → is_graphic n ends X ≡ true
      → AreApart label X → suc (length X) ≢ vertices
  missing_excludes colours C X m graphic apart size =
      absurd (omega (arith, size, m.apart, without_rank C, rainbow_bound C X m.set.rising graphic apart))

  -- the colours on a cut
  pub missing_of_cut : (colours k : ℕ) (cut C : List ℕ) → ((e : ℕ) → e < n → label e < colours)
      → IsCut n (is_graphic n ends) (is_once n colours label) k cut → AreLabelsOf label cut C → IsRising C → suc k < vertices
      → IsMissingColours vertices n ends colours label C
  missing_of_cut colours k cut C below c labels rc few = record {
    set = record {
      rising = rc;
      below = AllBelow-from_members colours C (λ x m.
          let w = labels.given x m in
          omega (arith, below w.0 (below_member c.set w.1), w.2));
    };
    apart = omega (
      arith,
      without_rank C,
      c.ranks,
      length-labels n colours label below cut C c.set rc labels,
      rank-subset (graphic_laws n ends) (edges_without n label C) (minus (all_below n) cut) (without_set C).rising
          (IsRising-minus (all_below n) cut (IsRising-all_below n)) outside,
    );
  }
    where
      outside : IsSubset (edges_without n label C) (minus (all_below n) cut)
      outside = record {
        inside = λ e m.
            let p = and_parts (ltb e n) (not (is_member (label e) C)) (sym (without_member C e) ∙ m) in
            let out : is_member e cut ≡ false = false_from_ne_true _ (λ h. both_ways _ (not-true _ p.1) (labels.held e h)) in
            is_member-minus e (all_below n) cut
            ∙ and_from (is_member e (all_below n)) (not (is_member e cut)) (is_member-all_below e n ∙ p.0) (ap not out);
      }
