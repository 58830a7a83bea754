-- The ladders of coloured graphs and of tables as answers: those of the graphic matroid with the partition matroid of the colours, and of
-- the partition matroids of the rows and of the columns. Colours are told exactly where the last rung is no spanning tree.
use Rattle.mat_solve.proofs.Common.{◌≡◌, ℕ, ◌-◌, ◌<◌, ◌≤◌, List, length, Option, Some, None, refl, sym, subst, arith, map, slice_index, MatchOption, le-ltb, lt-ltb, length-map, ends_of, Weight, IsMatroid, graphic_laws, is_graphic, Rung, row_at, IsAssignmentLadder, is_once, IsMissingColours}
use Rattle.mat_solve.proofs.Common.{IsRainbowLadder, IsValid, coloured, table, rainbow, assign, last_rung, is_short_of_tree, IsRangedOption, IsSolution, priced_rung, HaveFewElements}
use Rattle.mat_fronts.proofs.OnceEach.{once_laws}
use Rattle.mat_solve.proofs.PricedLadder.{few_elements, priced_ranged, priced_right, priced_bounded}

-- ---- coloured graphs

module _ (vertices colours : ℕ) (edges : List (ℕ × ℕ)) (colour_of : List ℕ) (w : List Weight)
    (valid : IsValid (coloured vertices colours edges colour_of w)) (rungs : List Rung) (cut : List ℕ) (missing : Option (List ℕ))
    (found : IsRainbowLadder vertices edges colours colour_of w rungs cut missing) where
  -- the sets of the rungs have few elements
  pub rainbow_few : HaveFewElements (length w) rungs
  rainbow_few = subst (λ n. HaveFewElements n rungs) (sym valid.6)
      (few_elements (graphic_laws (length edges) (ends_of edges)) valid.3.0 valid.7 rungs cut found.ladder)

  count : length (map (priced_rung w) rungs) ≡ length rungs
  count = length-map rungs (priced_rung w)

  -- the colours are there exactly where the last rung has too few edges
  colours_ranged : (option : Option (List ℕ))
      → MatchOption option (length rungs ≡ vertices)
      (λ C. (length rungs < vertices) × IsMissingColours vertices (length edges) (ends_of edges) colours (slice_index colour_of) C)
      → IsRangedOption colours (is_short_of_tree (last_rung (map (priced_rung w) rungs)) vertices) option
  colours_ranged None tree = le-ltb (last_rung (map (priced_rung w) rungs)) (vertices - 1) (omega (arith, count, tree))
  colours_ranged (Some C) (short, colours_missing) =
      let some = found.ladder.some in
      (lt-ltb (last_rung (map (priced_rung w) rungs)) (vertices - 1) (omega (arith, count, short, some)), colours_missing.set)

  colours_right : (option : Option (List ℕ))
      → MatchOption option (length rungs ≡ vertices)
      (λ C. (length rungs < vertices) × IsMissingColours vertices (length edges) (ends_of edges) colours (slice_index colour_of) C)
      → MatchOption option (vertices ≤ length (map (priced_rung w) rungs))
      (λ C. (length (map (priced_rung w) rungs) < vertices)
      × IsMissingColours vertices (length edges) (ends_of edges) colours (slice_index colour_of) C)
  colours_right None tree = omega (arith, count, tree)
  colours_right (Some C) (short, colours_missing) = (omega (arith, count, short), colours_missing)

  -- the ladder, with the weights of its sets, is a solution
  pub rainbow_solution : IsSolution (coloured vertices colours edges colour_of w)
      (rainbow (length edges) vertices colours (map (priced_rung w) rungs) cut missing)
  rainbow_solution =
      let laws : IsMatroid (length edges) (is_graphic (length edges) (ends_of edges)) = graphic_laws (length edges) (ends_of edges) in
      record {
        ranged = record {
          ladder_in_range = priced_ranged laws valid.3.0 valid.7 rungs cut found.ladder;
          vertices_in_range = record { some = valid.0; few = valid.1 };
          few_colours = valid.2;
          missing_in_range = colours_ranged missing found.missing_colours;
        };
        right = (
          refl,
          refl,
          refl,
          record {
            ladder = priced_right laws valid.3.0 valid.7 rungs cut found.ladder;
            missing_colours = colours_right missing found.missing_colours;
          },
        );
        bounded = priced_bounded laws valid.3.0 valid.7 rungs cut found.ladder;
      }

-- ---- tables

module _ (rows columns : ℕ) (cells : List (ℕ × ℕ)) (w : List Weight) (valid : IsValid (table rows columns cells w)) (rungs : List Rung)
    (cut : List ℕ) (found : IsAssignmentLadder rows columns cells w rungs cut) where
  -- the sets of the rungs have few elements
  pub assign_few : HaveFewElements (length w) rungs
  assign_few = subst (λ n. HaveFewElements n rungs) (sym valid.3)
      (few_elements (once_laws (length cells) rows (row_at cells)) valid.2.0 valid.4 rungs cut found)

  -- the ladder, with the weights of its sets, is a solution
  pub assign_solution : IsSolution (table rows columns cells w) (assign (length cells) rows columns (map (priced_rung w) rungs) cut)
  assign_solution =
      let laws : IsMatroid (length cells) (is_once (length cells) rows (row_at cells)) = once_laws (length cells) rows (row_at cells) in
      record {
        ranged = record {
          ladder_in_range = priced_ranged laws valid.2.0 valid.4 rungs cut found;
          few_rows = valid.0;
          few_columns = valid.1;
        };
        right = (refl, refl, refl, priced_right laws valid.2.0 valid.4 rungs cut found);
        bounded = priced_bounded laws valid.2.0 valid.4 rungs cut found;
      }
