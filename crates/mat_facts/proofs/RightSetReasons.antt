-- Right unions, packings and coverings give reasons: what a rule allows of a cut at most is its rank.
use Rattle.mat_facts.proofs.Common.{◌≡◌, ◌<◌, ◌≤◌, ◌-◌, ◌+◌, ◌*◌, ℕ, zero, suc, Bool, true, false, List, [], ◌∷◌, length, map, get_or, Option, None, Some, slice_get, inl, inr, refl, sym, ap, subst, arith, both_ways, get_or-map, All-cons, All-nil, same_Some, flat_map, heavy, family_union, indicator}
use Rattle.mat_facts.proofs.Common.{multiplicity, all_below, intersection, is_member, minus, IsSet, weight_at, Weight, no_members, IsRising-all_below, IsSet-all_below, IsSet-subset, only_member, IsSet-those_below, intersection-left, intersection-right, IsBase, IsLoop, IsMatroid, rank}
use Rattle.mat_facts.proofs.Common.{IsBase-maximal, IsMaximal-base, maximal_in, rank-maximal, level_at, IsLevelCut, part_at, ranks_sum, test_at, weighs, AreBases, IsRightCovering, IsRightPacking, packing_is_most, Tree, is_independent, Instance, list, IsValid, Certificate, union_of, pack_any, pack}
use Rattle.mat_facts.proofs.Common.{cover_never, cover, LevelLine, level_of, IsRight, IsRightUnionAnswer, AllowsAtMost, Fact, allowed, at_most, full, in_parts, Holds, level_facts, level_most_facts, BoundsLevel}
use Rattle.std.specs.List.{All, Contains}
use Rattle.mat_union.specs.declared.best.Level.{Level}
use Rattle.mat_facts.proofs.AllowedCounts.{count_front}
use Rattle.mat_facts.proofs.DividedSets.{count_none, count_of_first}
use Rattle.mat_facts.proofs.GivenBounds.{allows_rank}
use Rattle.mat_facts.proofs.ListedFacts.{all_in_all, all_one, all_three, all_two, stands_in_all, stands_later}
use Rattle.mat_facts.proofs.RightLadderReasons.{GivesReason}
use Rattle.mat_facts.proofs.RulesOfProblems.{rules_are_matroids}

-- ---- what each of some matroids allows of a cut

abbrev ranks_of : List (List ℕ → Bool) → List ℕ → List ℕ
ranks_of tests cut = map (λ test. rank test cut) tests

ranks_counted : (tests : List (List ℕ → Bool)) (cut : List ℕ) → count_of_first (λ i. get_or (ranks_of tests cut) i 0) (length tests) ≡ ranks_sum tests cut
ranks_counted [] cut = count_none (λ i. get_or (ranks_of [] cut) i 0)
ranks_counted (test ∷ tests) cut =
    let before = ranks_counted tests cut in
    let front = count_front (λ i. get_or (ranks_of (test ∷ tests) cut) i 0) (length tests) in
    omega arith

stands_most : (o : ℕ) (tests : List (List ℕ → Bool)) (cut : List ℕ) (j : ℕ) → j < length tests
    → Contains (level_most_facts o tests cut) (at_most (o + j) cut (get_or (ranks_of tests cut) j 0))
stands_most o [] cut j l = absurd (omega arith)
stands_most o (test ∷ tests) cut zero l =
    let same : o ≡ o + 0 = omega arith in
    subst (λ i. Contains (level_most_facts o (test ∷ tests) cut) (at_most i cut (rank test cut))) same (0, omega arith, refl)
stands_most o (test ∷ tests) cut (suc j) l =
    let same : suc o + j ≡ o + suc j = omega arith in
    subst (λ i. Contains (level_most_facts o (test ∷ tests) cut) (at_most i cut (get_or (ranks_of tests cut) j 0))) same
    (stands_later (at_most (suc o + j) cut (get_or (ranks_of tests cut) j 0)) (at_most o cut (rank test cut)) (level_most_facts (suc o) tests cut)
    (stands_most (suc o) tests cut j (omega arith)))

hold_most : (H : Fact → Type 0) (o : ℕ) (tests : List (List ℕ → Bool)) (cut : List ℕ)
    → ((j : ℕ) → j < length tests → H (at_most (o + j) cut (get_or (ranks_of tests cut) j 0))) → All H (level_most_facts o tests cut)
hold_most H o [] cut h = All-nil H
hold_most H o (test ∷ tests) cut h =
    let first : o + 0 ≡ o = omega arith in
    All-cons H (at_most o cut (rank test cut)) (level_most_facts (suc o) tests cut) (subst (λ i. H (at_most i cut (rank test cut))) first (h 0 (omega arith)))
    (hold_most H (suc o) tests cut (λ j l.
    let same : o + suc j ≡ suc o + j = omega arith in
    subst (λ i. H (at_most i cut (get_or (ranks_of tests cut) j 0))) same (h (suc j) (omega arith))))

-- ---- unions

-- the level with this number, as the line has it
level_there : (levels : List LevelLine) (k : ℕ) (level : LevelLine) → slice_get levels k ≡ Some level
    → (k < length (map level_of levels)) × (level_at (map level_of levels) k ≡ level_of level)
level_there [] k level at = absurd (none at)
  where
    none : None ≡ Some level → ⊥
    none e = cc
level_there (line ∷ lines) zero level at = (omega arith, ap level_of (same_Some _ _ at))
level_there (line ∷ lines) (suc k) level at = let later = level_there lines k level at in (omega arith, later.1)

line_there : (levels : List LevelLine) (k : ℕ) → k < length (map level_of levels)
    → (level : LevelLine) × (slice_get levels k ≡ Some level) × (level_of level ≡ level_at (map level_of levels) k)
line_there [] k l = absurd (omega arith)
line_there (line ∷ lines) zero l = (line, refl, refl)
line_there (line ∷ lines) (suc k) l = line_there lines k (omega arith)

module _ (w : List Weight) (matroids : List Tree) (n : ℕ) (printed : Weight) (parts : List (List ℕ)) (levels : List LevelLine)
    (valid : IsValid (list w matroids)) (right : IsRight (list w matroids) (union_of n printed parts levels)) where
  abbrev problem : Instance
  problem = list w matroids

  abbrev answer : Certificate
  answer = union_of n printed parts levels

  abbrev tests : List (List ℕ → Bool)
  tests = map is_independent matroids

  is : IsRightUnionAnswer (length w) tests w printed parts levels
  is = subst (λ m. IsRightUnionAnswer m tests w printed parts levels) right.0 right.1

  abbrev each_level : LevelLine → List Fact
  each_level level = level_facts tests w parts level

  abbrev facts : List Fact
  facts = allowed ∷ flat_map each_level levels

  abbrev held : LevelLine → ℕ
  held level = length (intersection (family_union parts) (heavy (length w) w level.at))

  cut_at : (k : ℕ) (level : LevelLine) → slice_get levels k ≡ Some level → IsLevelCut (length w) tests w parts level.at level.cut
  cut_at k level at =
      let there = level_there levels k level at in
      subst (λ (l : Level). IsLevelCut (length w) tests w parts l.at l.cut) there.1 (is.right.cuts k there.0)

  level_holds : (k : ℕ) (level : LevelLine) → slice_get levels k ≡ Some level → All (Holds problem answer) (each_level level)
  level_holds k level at =
      let laws = rules_are_matroids problem valid in
      let cut = cut_at k level at in
      let set = IsSet-subset (length w) level.cut (heavy (length w) w level.at) cut.rises cut.inside (IsSet-those_below (length w) (weighs (weight_at w) level.at)) in
      All-cons (Holds problem answer) (in_parts level.at (held level)) (level_most_facts 0 tests level.cut) refl
      (hold_most (Holds problem answer) 0 tests level.cut (λ j l.
      let same : 0 + j ≡ j = omega arith in
      subst (λ i. Holds problem answer (at_most i level.cut (get_or (ranks_of tests level.cut) j 0))) (sym same) (
        l,
        (subst (AllowsAtMost (length w) (test_at tests j) level.cut)
            (sym (get_or-map (λ test. rank test level.cut) tests j (λ X. false) 0 l)) (allows_rank (laws.each j l) level.cut set)),
      )))

  level_bounds : (k : ℕ) (level : LevelLine) → slice_get levels k ≡ Some level → BoundsLevel problem facts level.at level.cut
  level_bounds k level at =
      let cut = cut_at k level at in
      let tell = λ (fact : Fact) (h : Contains (each_level level) fact).
      stands_later fact allowed (flat_map each_level levels) (stands_in_all each_level levels k level fact at h) in
      let ranks = ranks_counted tests level.cut in
      let count = cut.count in
      record {
        most = ranks_of tests level.cut;
        held = held level;
        inside = cut.inside;
        says_most = λ some i l.
            let same : 0 + i ≡ i = omega arith in
            let fact = at_most i level.cut (get_or (ranks_of tests level.cut) i 0) in
            tell fact (stands_later fact (in_parts level.at (held level)) (level_most_facts 0 tests level.cut)
            (subst (λ o. Contains (level_most_facts 0 tests level.cut) (at_most o level.cut (get_or (ranks_of tests level.cut) i 0))) same
            (stands_most 0 tests level.cut i l)));
        says_held = tell (in_parts level.at (held level)) (0, omega arith, refl);
        enough = omega arith;
      }

  pub union_gives : GivesReason (list w matroids) (union_of n printed parts levels)
  union_gives = λ told. (
    All-cons (Holds problem answer) allowed (flat_map each_level levels) (right.0, is.right.are, is.priced)
        (all_in_all each_level (Holds problem answer) levels level_holds),
    record {
      says_allowed = (0, omega arith, refl);
      levels = map level_of levels;
      falling = is.right.weights;
      each = λ j l.
          let line = line_there levels j l in
          subst (λ (level : Level). BoundsLevel problem facts level.at level.cut) line.2 (level_bounds j line.0 line.1);
    },
  )

-- ---- of one matroid

module _ (w : List Weight) (matroid : Tree) (n : ℕ) (valid : IsValid (list w (matroid ∷ []))) where
  abbrev single : Instance
  single = list w (matroid ∷ [])

  abbrev p : List ℕ → Bool
  p = is_independent matroid

  lp : IsMatroid (length w) p
  lp = (rules_are_matroids single valid).each 0 (omega arith)

  pub no_rank_gives : IsRight (list w (matroid ∷ [])) (pack_any n) → GivesReason (list w (matroid ∷ [])) (pack_any n)
  no_rank_gives right = λ told.
      let none : rank p (all_below (length w)) ≡ 0 = subst (λ m. rank p (all_below m) ≡ 0) right.0 right.1 in (
        all_one (Holds single (pack_any n)) (at_most 0 (all_below (length w)) 0)
            (omega arith, subst (AllowsAtMost (length w) p (all_below (length w))) none (allows_rank lp (all_below (length w)) (IsSet-all_below (length w)))),
        (0, omega arith, refl),
      )

  -- a right packing has a base, since there is one
  one_base : (B : List ℕ) → IsBase (length w) p B → AreBases (length w) p (B ∷ [])
  unfolding multiplicity
  one_base B base = record { disjoint = record { once = λ x. few (is_member x B) }; each = each }
    where
      few : (b : Bool) → indicator b + 0 ≤ 1
      few true = omega arith
      few false = omega arith

      each : (i : ℕ) → i < 1 → IsBase (length w) p (part_at (B ∷ []) i)
      each zero l = base
      each (suc i) l = absurd (omega arith)

  pub some_base : (bases : List (List ℕ)) (cut : List ℕ) → IsRightPacking (length w) p bases cut → 0 < length bases
  some_base bases cut is =
      let found = maximal_in lp (all_below (length w)) (IsRising-all_below (length w)) in
      let most = packing_is_most lp bases cut is (found.0 ∷ []) (one_base found.0 (IsBase-maximal (length w) p found.0 found.1)) in
      omega arith

  pub packing_gives : (bases : List (List ℕ)) (cut : List ℕ) → IsRight (list w (matroid ∷ [])) (pack n bases cut)
      → GivesReason (list w (matroid ∷ [])) (pack n bases cut)
  packing_gives bases cut right = λ told.
      let is : IsRightPacking (length w) p bases cut = subst (λ m. IsRightPacking m p bases cut) right.0 right.1 in
      let base = is.are.each 0 (some_base bases cut is) in
      let size = rank-maximal lp (all_below (length w)) (part_at bases 0) (IsRising-all_below (length w)) (IsMaximal-base lp (part_at bases 0) base) in (
        all_three (Holds single (pack n bases cut)) allowed (at_most 0 cut (rank p cut)) (full (part_at bases 0))
            (right.0, is.are) (omega arith, allows_rank lp cut is.set) (refl, base),
        record {
          says_allowed = (0, omega arith, refl);
          cut = cut;
          most = rank p cut;
          base = part_at bases 0;
          says_most = (1, omega arith, refl);
          says_base = (2, omega arith, refl);
          short = subst (λ r. length (minus (all_below (length w)) cut) < (length bases + 1) * (r - rank p cut)) size is.short;
        },
      )

  -- nothing that is allowed has a loop
  loop_allows_none : (e : ℕ) → IsLoop (length w) p e → IsSet (length w) (e ∷ []) → AllowsAtMost (length w) p (e ∷ []) 0
  loop_allows_none e loop set = record { set = set; most = most }
    where
      most : (X : List ℕ) → p X ≡ true → length (intersection X (e ∷ [])) ≤ 0
      most X ok =
          let none = no_members (intersection X (e ∷ [])) (λ x m.
          let same = only_member x e ((intersection-right X (e ∷ [])).inside x m) in
          let member : is_member e X ≡ true = subst (λ y. is_member y X ≡ true) same ((intersection-left X (e ∷ [])).inside x m) in
          both_ways _ loop.1 (lp.subsets (e ∷ []) X set.rising
          (record { inside = λ y h. subst (λ z. is_member z X ≡ true) (sym (only_member y e h)) member }) ok)) in
          let size = ap length none in
          omega arith

  pub never_gives : (loop_at : ℕ) → IsRight (list w (matroid ∷ [])) (cover_never n loop_at) → GivesReason (list w (matroid ∷ [])) (cover_never n loop_at)
  never_gives loop_at right = λ told.
      let loop : IsLoop (length w) p loop_at = subst (λ m. IsLoop m p loop_at) right.0 right.1 in
      let set : IsSet (length w) (loop_at ∷ []) = record { rising = record { rises = (omega arith, tt) }; below = (loop.0, tt) } in (
        all_two (Holds single (cover_never n loop_at)) allowed (at_most 0 (loop_at ∷ []) 0) right.0
            (omega arith, loop_allows_none loop_at loop set),
        ((0, omega arith, refl), loop_at, (1, omega arith, refl)),
      )

  pub covering_gives : (sets : List (List ℕ)) (cut : Option (List ℕ)) → IsRight (list w (matroid ∷ [])) (cover n sets cut)
      → GivesReason (list w (matroid ∷ [])) (cover n sets cut)
  covering_gives sets None right = λ told.
      let is : IsRightCovering (length w) p sets None = subst (λ m. IsRightCovering m p sets None) right.0 right.1 in
      (all_one (Holds single (cover n sets None)) allowed (right.0, is.cover), ((0, omega arith, refl), inl is.least))
  covering_gives sets (Some cut) right = λ told.
      let is : IsRightCovering (length w) p sets (Some cut) = subst (λ m. IsRightCovering m p sets (Some cut)) right.0 right.1 in (
        all_two (Holds single (cover n sets (Some cut))) allowed (at_most 0 cut (rank p cut)) (right.0, is.cover)
            (omega arith, allows_rank lp cut is.least.1.set),
        (
          (0, omega arith, refl),
          inr (record { cut = cut; most = rank p cut; says_most = (1, omega arith, refl); long = is.least.1.long }),
        ),
      )
