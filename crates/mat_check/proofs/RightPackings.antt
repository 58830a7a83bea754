-- Packings and coverings in range are right exactly where their clauses hold.
use Rattle.mat_check.proofs.Common.{◌≡◌, ℕ, ◌+◌, ◌<◌, Bool, true, false, ◌||◌, List, [], ◌∷◌, ◌++◌, length, Option, Some, None, refl, ◌∙◌, arith, lt-ltb, ltb-false, ltb-true, not-true, not_from_false, family_union, indicator, multiplicity, is_member, family_union-gives, multiplicity-at}
use Rattle.mat_check.proofs.Common.{is_member-union, IsBase-not_addable, not_addable-IsBase, part_at, IsRangedCover, IsRangedPacking, Clause, numbered_clauses, cover_clauses, cover_cut_clauses, full_clause, independent_clause, missed_clauses, overlap_clauses, pack_clauses, packing_cut_clause}
use Rattle.mat_packing.specs.Packings.{IsCover, IsRightCovering, IsRightPacking}
use Rattle.mat_check.proofs.FirstFailures.{AllHold, AllHold-append, AllHold-back, AllHold-front}
use Rattle.mat_check.proofs.NumberedFailures.{all_items_hold, each_holds}
use Rattle.mat_check.proofs.Overlaps.{disjoint_where_none_overlaps, missed_none, none_missed, none_overlaps}

-- what stands in some set of a family is in its union
in_union_of_some : (x : ℕ) (sets : List (List ℕ)) → 0 < multiplicity x sets → is_member x (family_union sets) ≡ true
unfolding multiplicity family_union
in_union_of_some x [] some = absurd (omega arith)
in_union_of_some x (a ∷ sets) some = is_member-union x a (family_union sets)
    ∙ one_more (is_member x a) (multiplicity x sets) (is_member x (family_union sets)) some (λ l. in_union_of_some x sets l)
  where
    one_more : (b : Bool) (m : ℕ) (c : Bool) → 0 < indicator b + m → (0 < m → c ≡ true) → (b || c) ≡ true
    one_more true m c some h = refl
    one_more false m c some h = h (omega arith)

-- that of set i of a covering
abbrev pub set_clauses : (List ℕ → Bool) → ℕ → List ℕ → List Clause
set_clauses p i set = independent_clause p i set ∷ []

module _ (n : ℕ) (p : List ℕ → Bool) where
  -- ---- packings

  -- those of base i
  abbrev pub base_clauses : ℕ → List ℕ → List Clause
  base_clauses i base = independent_clause p i base ∷ full_clause n p i base ∷ []

  module _ (bases : List (List ℕ)) (cut : List ℕ) where
    abbrev pub all_bases : List Clause
    all_bases = numbered_clauses base_clauses 0 bases

    abbrev pub packing_end : List Clause
    packing_end = packing_cut_clause n p (length bases) cut ∷ []

    pub packing_is_right : IsRangedPacking n bases cut → AllHold (pack_clauses n p bases cut) → IsRightPacking n p bases cut
    packing_is_right r h =
        let front = AllHold-front (overlap_clauses n bases ++ all_bases) packing_end h in
        let end = AllHold-back (overlap_clauses n bases ++ all_bases) packing_end h in
        let each = each_holds base_clauses bases [] (AllHold-back (overlap_clauses n bases) all_bases front) in
        record {
          are = record {
            disjoint = disjoint_where_none_overlaps n bases r.bases_in_range.each (AllHold-front (overlap_clauses n bases) all_bases front);
            each = λ i l. not_addable-IsBase n p (part_at bases i) (each i l).0 (not-true _ (each i l).1.0);
          };
          set = r.cut_in_range;
          short = ltb-true _ _ end.0;
        }

    pub packing_holds : IsRightPacking n p bases cut → AllHold (pack_clauses n p bases cut)
    packing_holds r =
        AllHold-append (overlap_clauses n bases ++ all_bases) packing_end
        (AllHold-append (overlap_clauses n bases) all_bases (none_overlaps n bases (λ x l. r.are.disjoint.once x))
        (all_items_hold base_clauses bases [] (λ i l.
        let base = r.are.each i l in
        (base.passes, (not_from_false _ (IsBase-not_addable n p (part_at bases i) base), tt))))) (lt-ltb _ _ r.short, tt)

  -- ---- coverings

  module _ (sets : List (List ℕ)) where
    abbrev pub all_sets : List Clause
    all_sets = numbered_clauses (set_clauses p) 0 sets

    sets_cover : AllHold all_sets → AllHold (missed_clauses n sets) → IsCover n p sets
    sets_cover independent missed = record {
      passes = λ i l. (each_holds (set_clauses p) sets [] independent i l).0;
      all = λ x l. in_union_of_some x sets (missed_none n sets missed x l);
    }

    covering_from : (cut : Option (List ℕ)) → IsRangedCover n sets cut → IsCover n p sets → AllHold (cover_cut_clauses p (length sets) cut)
        → IsRightCovering n p sets cut
    covering_from None r cover h = record { cover = cover; least = (let le = ltb-false 0 (length sets) r.cut_in_range in omega arith) }
    covering_from (Some A) r cover h = record {
      cover = cover;
      least = (ltb-true 0 (length sets) r.cut_in_range.0, record { set = r.cut_in_range.1; long = ltb-true _ _ h.0 });
    }

    pub covering_is_right : (cut : Option (List ℕ)) → IsRangedCover n sets cut → AllHold (cover_clauses n p sets cut)
        → IsRightCovering n p sets cut
    covering_is_right cut r h =
        let front = AllHold-front (all_sets ++ missed_clauses n sets) (cover_cut_clauses p (length sets) cut) h in
        covering_from cut r (sets_cover (AllHold-front all_sets (missed_clauses n sets) front) (AllHold-back all_sets (missed_clauses n sets) front))
        (AllHold-back (all_sets ++ missed_clauses n sets) (cover_cut_clauses p (length sets) cut) h)

    cut_holds : (cut : Option (List ℕ)) → IsRightCovering n p sets cut → AllHold (cover_cut_clauses p (length sets) cut)
    cut_holds None r = tt
    cut_holds (Some A) r = (lt-ltb _ _ r.least.1.long, tt)

    none_is_missed : IsCover n p sets → (x : ℕ) → x < n → 0 < multiplicity x sets
    none_is_missed cover x l = let w = family_union-gives x sets (cover.all x l) in multiplicity-at x sets w.0 w.1 w.2

    pub covering_holds : (cut : Option (List ℕ)) → IsRightCovering n p sets cut → AllHold (cover_clauses n p sets cut)
    covering_holds cut r =
        AllHold-append (all_sets ++ missed_clauses n sets) (cover_cut_clauses p (length sets) cut)
        (AllHold-append all_sets (missed_clauses n sets) (all_items_hold (set_clauses p) sets [] (λ i l. (r.cover.passes i l, tt)))
        (none_missed n sets (none_is_missed r.cover))) (cut_holds cut r)
