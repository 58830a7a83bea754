-- An answer on unions in range is right exactly where its clauses hold: those of the parts say that they are disjoint and independent, and
-- those of the levels that their weights are the distinct ones, falling, and that their cuts show what they are to show.
use Rattle.mat_check.proofs.Common.{◌≡◌, ℕ, ◌<◌, Bool, not, ◌&&◌, ltb, List, [], ◌∷◌, ◌++◌, length, map, sym, ◌∙◌, subst, and_from, and_parts, eq-eqb, eqb-true, lt-ltb, length-map, All-get_or, family_union, is_member, is_below, is_same, weight, weight_at, zero_weight, Weight, below_member}
use Rattle.mat_check.proofs.Common.{is_member-those_below, same_from, same_gives, falling_weights, heavy, IsLevelCut, test_at, IsRangedLevel, IsRangedUnion, LevelLine, level_of, IsRightUnionAnswer, Clause, failure_at, numbered_clauses, independent_clause, level_clauses, level_cut_clause}
use Rattle.mat_check.proofs.Common.{outside_clause, overlap_clauses, union_clauses}
use Rattle.mat_check.specs.declared.reason.Reason.TheVariants as reasons
use Rattle.mat_check.proofs.FallingLevels.{falling_from, falling_gives, level_is, line_at}
use Rattle.mat_check.proofs.FirstFailures.{AllHold, AllHold-append, AllHold-at, AllHold-back, AllHold-front, AllHold-map}
use Rattle.mat_check.proofs.NumberedFailures.{all_items_hold, each_holds}
use Rattle.mat_check.proofs.Overlaps.{disjoint_where_none_overlaps, none_overlaps}

module _ (n : ℕ) (tests : List (List ℕ → Bool)) (w : List Weight) (parts : List (List ℕ)) where
  -- ---- a level

  in_heavy : (t : Weight) (x : ℕ) → is_member x (heavy n w t) ≡ (ltb x n && not (is_below (weight_at w x) t))
  in_heavy t x = is_member-those_below x n (λ y. not (is_below (weight_at w y) t))

  module _ (j : ℕ) (level : LevelLine) where
    abbrev members : List Clause
    members = map (outside_clause w j level) level.cut

    abbrev filled : List Clause
    filled = level_cut_clause n tests w parts j level ∷ []

    level_is_right : IsRangedLevel n level → AllHold (level_clauses n tests w parts j level) → IsLevelCut n tests w parts level.at level.cut
    level_is_right r h =
        let front = AllHold-front members filled h.1 in
        let back = AllHold-back members filled h.1 in
        record {
          rises = r.set_in_range.rising;
          inside = record {
            inside = λ x m. in_heavy level.at x ∙ and_from (ltb x n) (not (is_below (weight_at w x) level.at))
                (lt-ltb x n (below_member r.set_in_range m)) (AllHold-at (outside_clause w j level) level.cut front x m);
          };
          count = eqb-true _ _ back.0;
        }

    level_holds : level.at ≡ weight_at (falling_weights w) j → IsLevelCut n tests w parts level.at level.cut
        → AllHold (level_clauses n tests w parts j level)
    level_holds e r = (
      same_from _ _ e,
      AllHold-append members filled
          (AllHold-map (outside_clause w j level) level.cut (λ x m.
          (and_parts (ltb x n) (not (is_below (weight_at w x) level.at)) (sym (in_heavy level.at x) ∙ r.inside.inside x m)).1))
          (eq-eqb _ _ r.count, tt),
    )

  -- ---- the whole answer

  module _ (printed : Weight) (levels : List LevelLine) where
    abbrev pub part_clauses : ℕ → List ℕ → List Clause
    part_clauses i part = independent_clause (test_at tests i) i part ∷ []

    abbrev pub all_parts : List Clause
    all_parts = numbered_clauses part_clauses 0 parts

    abbrev pub weight_clause : Clause
    weight_clause = record { holds = is_same printed (weight w (family_union parts)); failure = failure_at reasons.Weight 0 0 }

    abbrev pub all_levels : List Clause
    all_levels = numbered_clauses (level_clauses n tests w parts) 0 levels

    pub union_is_right : IsRangedUnion n printed parts levels → length parts ≡ length tests → length levels ≡ length (falling_weights w)
        → AllHold (union_clauses n tests w printed parts levels) → IsRightUnionAnswer n tests w printed parts levels
    union_is_right r one_each count h =
        let front = AllHold-front (overlap_clauses n parts ++ all_parts) (weight_clause ∷ all_levels) h in
        let rest = AllHold-back (overlap_clauses n parts ++ all_parts) (weight_clause ∷ all_levels) h in
        let overlap = AllHold-front (overlap_clauses n parts) all_parts front in
        let independent = AllHold-back (overlap_clauses n parts) all_parts front in
        let each : (j : ℕ) → j < length levels → AllHold (level_clauses n tests w parts j (line_at levels j))
        = each_holds (level_clauses n tests w parts) levels (record { at = zero_weight; cut = [] }) rest.1 in
        record {
          priced = same_gives _ _ rest.0;
          right = record {
            are = record {
              one_each = one_each;
              disjoint = disjoint_where_none_overlaps n parts r.parts_in_range.each overlap;
              passes = λ i l. (each_holds part_clauses parts [] independent i l).0;
            };
            weights = falling_from w levels count (λ j l. same_gives _ _ (each j l).0);
            cuts = λ j l.
                let inside : j < length levels = subst (λ m. j < m) (length-map levels level_of) l in
                subst (λ level. IsLevelCut n tests w parts level.at level.cut) (sym (level_is levels j))
                (level_is_right j (line_at levels j) (All-get_or (IsRangedLevel n) levels j _ inside r.levels_in_range) (each j inside));
          };
        }

    pub union_holds : IsRightUnionAnswer n tests w printed parts levels → AllHold (union_clauses n tests w printed parts levels)
    union_holds r =
        let falls = falling_gives w levels r.right.weights in
        AllHold-append (overlap_clauses n parts ++ all_parts) (weight_clause ∷ all_levels)
        (AllHold-append (overlap_clauses n parts) all_parts (none_overlaps n parts (λ x l. r.right.are.disjoint.once x))
        (all_items_hold part_clauses parts [] (λ i l. (r.right.are.passes i l, tt)))) (
          same_from _ _ r.priced,
          all_items_hold (level_clauses n tests w parts) levels (record { at = zero_weight; cut = [] }) (λ j l.
              level_holds j (line_at levels j) (falls.1 j) (subst (λ level. IsLevelCut n tests w parts level.at level.cut) (level_is levels j)
              (r.right.cuts j (subst (λ m. j < m) (sym (length-map levels level_of)) l)))),
        )
