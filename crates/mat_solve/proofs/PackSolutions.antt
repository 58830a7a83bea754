-- Packings and coverings of one matroid as answers. There are no more bases than elements, since they share none and each has some; and no
-- more sets cover the elements than there are, since each element alone is independent.
use Rattle.mat_solve.proofs.Common.{◌≡◌, ℕ, ◌-◌, ◌<◌, ◌≤◌, true, List, [], ◌∷◌, length, Option, Some, None, refl, sym, subst, arith, All, MatchOption, nat_lt, le-ltb, lt-ltb, get_or_default, mul-le, family_union, all_below, is_member, IsSet, IsSubset, Weight, length-minus-intersection, IsSet-length}
use Rattle.mat_solve.proofs.Common.{below_member, IsSet-family_union, member_from_some, only_member, IsMatroid, IsLoop, rank_is, HasNoLoop, Tree, is_independent, IsValid, list, IsSoundInstance, pack_any, pack, cover_never, cover, IsRangedOption, laws_of_one, IsSolution}
use Rattle.mat_laws.specs.Ranks.{rank}
use Rattle.mat_packing.specs.Packings.{IsCoverCut, IsRightCovering, IsRightPacking}
use Rattle.mat_packing.proofs.Copies.{bases_count}

module _ (w : List Weight) (matroid : Tree) (valid : IsValid (list w (matroid ∷ []))) (sound : IsSoundInstance (list w (matroid ∷ []))) where
  laws : IsMatroid (length w) (is_independent matroid)
  laws = laws_of_one w matroid sound

  -- ---- packings

  -- any number of bases, where the rank is 0
  pub any_solution : rank (is_independent matroid) (all_below (length w)) ≡ 0 → IsSolution (list w (matroid ∷ [])) (pack_any (length w))
  any_solution none = record { ranged = valid.0.0; right = (refl, none); bounded = tt }

  module _ (bases : List (List ℕ)) (cut : List ℕ) (some : 0 < rank (is_independent matroid) (all_below (length w)))
      (found : IsRightPacking (length w) (is_independent matroid) bases cut) where
    base_sets : All (IsSet (length w)) bases
    base_sets i d lt = rw (get_or_default bases i d [] lt) (laws.sets _ (found.are.each i lt).passes)

    -- each base has as many elements as the rank
    few_bases : length bases ≤ length w
    few_bases =
        let set = IsSet-family_union (length w) bases base_sets in
        let split = length-minus-intersection (family_union bases) (all_below (length w)) set.rising in
        let whole = IsSet-length (length w) (family_union bases) set in
        let count = bases_count laws bases found.are in
        let least = mul-le (length bases) 1 (length bases) (rank (is_independent matroid) (all_below (length w))) (omega arith) some in
        omega (arith, split, whole, count, least)

    -- most bases with their cut
    pub pack_solution : IsSolution (list w (matroid ∷ [])) (pack (length w) bases cut)
    pack_solution = record {
      ranged = record {
        few = valid.0.0;
        bases_in_range = record { enough = omega arith; no_more = few_bases; each = base_sets };
        cut_in_range = found.set;
      };
      right = (refl, found);
      bounded = tt;
    }

  -- ---- coverings

  -- an element that is dependent alone
  pub never_solution : (loop_at : ℕ) → IsLoop (length w) (is_independent matroid) loop_at
      → IsSolution (list w (matroid ∷ [])) (cover_never (length w) loop_at)
  never_solution loop_at loop = record { ranged = (valid.0.0, loop.0); right = (refl, loop); bounded = tt }

  module _ (sets : List (List ℕ)) (no_loop : HasNoLoop (length w) (is_independent matroid)) where
    -- one set fewer than there are has at most as much room as the cut has elements
    few_by_cut : (cut : List ℕ) → IsCoverCut (length w) (is_independent matroid) (length sets) cut → length sets ≤ length w
    few_by_cut cut is =
        let long = is.long in
        let some = member_from_some cut (omega (arith, long)) in
        let alone : IsSubset (some.0 ∷ []) cut = record { inside = λ x m. subst (λ y. is_member y cut ≡ true) (sym (only_member x some.0 m)) some.1 } in
        let one = (rank_is laws cut is.set.rising).most (some.0 ∷ []) (no_loop some.0 (below_member is.set some.1)) alone in
        let least = mul-le (length sets - 1) 1 (length sets - 1) (rank (is_independent matroid) cut) (omega arith) one in
        omega (arith, long, least, IsSet-length (length w) cut is.set)

    few_sets : (cut : Option (List ℕ))
        → MatchOption cut (length sets ≡ 0) (λ A. (0 < length sets) × IsCoverCut (length w) (is_independent matroid) (length sets) A)
        → length sets ≤ length w
    few_sets None none = omega (arith, none)
    few_sets (Some cut) (some, is) = few_by_cut cut is

    ranged_cut : (cut : Option (List ℕ))
        → MatchOption cut (length sets ≡ 0) (λ A. (0 < length sets) × IsCoverCut (length w) (is_independent matroid) (length sets) A)
        → IsRangedOption (length w) (nat_lt 0 (length sets)) cut
    ranged_cut None none = le-ltb 0 (length sets) (omega (arith, none))
    ranged_cut (Some cut) (some, is) = (lt-ltb 0 (length sets) some, is.set)

    -- fewest sets with their cut
    pub cover_solution : (cut : Option (List ℕ)) → IsRightCovering (length w) (is_independent matroid) sets cut
        → IsSolution (list w (matroid ∷ [])) (cover (length w) sets cut)
    cover_solution cut found = record {
      ranged = record {
        few = valid.0.0;
        sets_in_range = record {
          enough = omega arith;
          no_more = few_sets cut found.least;
          each = λ i d lt. rw (get_or_default sets i d [] lt) (laws.sets _ (found.cover.passes i lt));
        };
        cut_in_range = ranged_cut cut found.least;
      };
      right = (refl, found);
      bounded = tt;
    }
