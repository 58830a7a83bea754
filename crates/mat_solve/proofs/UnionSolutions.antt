-- The parts of a union with their levels as an answer. There are no more levels than elements, since each has the weight of an element, and
-- no two have the same.
use Rattle.mat_solve.proofs.Common.{◌≡◌, ℕ, ◌<◌, ◌≤◌, true, false, List, [], length, get_or, refl, inl, inr, sym, subst, ◌∙◌, arith, map, All, cases_lt, cases_order, lt-ltb, ltb-true, ints, length-map, get_or-map, get_or_default, most_elements, largest_weight, largest_number, family_union}
use Rattle.mat_solve.proofs.Common.{is_member, all_below, AllBelow, IsSet, ◌≺◌, weight, weight_at, Weight, IsRising-all_below, IsSet-length, IsSet-subset, is_member-all_below, length-all_below, weight_within_at, IsSet-family_union, IsMatroid, AreFalling, IsRightUnion, level_at, AreMatroids}
use Rattle.mat_solve.proofs.Common.{AreParts, Tree, uniform, is_independent, IsValid, list, IsSoundInstance, union_of, IsCertificateWeight, IsRangedLevel, LevelLine, level_of, laws_on_weights, IsSolution}
use Rattle.mat_sets.proofs.OneToOne.{length-covered}
use Rattle.mat_sets.proofs.Search.{IsSet-those_below}
use Rattle.mat_union.specs.PartListLaws.{part_set}
use Rattle.mat_union.specs.declared.best.Level.{Level}
use Rattle.mat_solve.proofs.SetWeights.{set_in_range, weight_within_more}

-- ---- the number of levels

below_itself : (a : Weight) → a ≺ a → ⊥
below_itself a less = let tie = less.1 refl in omega (arith, ints)

module _ (w : List Weight) (levels : List Level) (falling : AreFalling w levels) where
  -- the level of an element
  level_found : (x : ℕ) → (j : ℕ) × (x < length w → (j < length levels) × ((level_at levels j).at ≡ weight_at w x))
  level_found x = elim (cases_lt x (length w)) [
    | inl lt ↦ (let found = falling.all x lt in (found.0, λ _. (found.1, found.2)))
    | inr ge ↦ (0, λ lt. absurd (omega (arith, lt, ge)))
  ]

  -- levels of the same weight are the same
  same_level : (i j : ℕ) → i < length levels → j < length levels → (level_at levels i).at ≡ (level_at levels j).at → i ≡ j
  same_level i j i_small j_small same = elim (cases_order i j) [
    | inl equal ↦ equal
    | inr (inl less) ↦ absurd (below_itself (level_at levels i).at (subst (λ a. a ≺ (level_at levels i).at) (sym same) (falling.falling i j less j_small)))
    | inr (inr more) ↦ absurd (below_itself (level_at levels j).at (subst (λ a. a ≺ (level_at levels j).at) same (falling.falling j i more i_small)))
  ]

  levels_covered : (v : ℕ) → is_member v (all_below (length levels)) ≡ true
      → (x : ℕ) × (is_member x (all_below (length w)) ≡ true) × ((level_found x).0 ≡ v)
  levels_covered v m =
      let small : v < length levels = ltb-true v (length levels) (sym (is_member-all_below v (length levels)) ∙ m) in
      let given = falling.given v small in
      let found = (level_found given.0).1 given.1 in (
        given.0,
        is_member-all_below given.0 (length w) ∙ lt-ltb given.0 (length w) given.1,
        same_level (level_found given.0).0 v found.0 small (found.1 ∙ given.2),
      )

  -- there are no more levels than elements
  few_levels : length levels ≤ length w
  few_levels = omega (
    arith,
    length-covered (λ x. (level_found x).0) (all_below (length w)) (all_below (length levels)) (IsRising-all_below (length levels)) levels_covered,
    length-all_below (length w),
    length-all_below (length levels),
  )

-- ---- the answer

module _ (w : List Weight) (matroids : List Tree) (valid : IsValid (list w matroids)) (sound : IsSoundInstance (list w matroids))
    (parts : List (List ℕ)) (are : AreParts (map is_independent matroids) parts) where
  -- each matroid obeys the laws
  laws : AreMatroids (length w) (map is_independent matroids)
  laws = record {
    each = λ i lt.
        let small : i < length matroids = omega (arith, lt, length-map matroids is_independent) in
        let tree = get_or matroids i (uniform 0 0) in
        let ok = sound i (uniform 0 0) small in
        subst (IsMatroid (length w)) (sym (get_or-map is_independent matroids i (uniform 0 0) (λ X. false) small)) (laws_on_weights w tree ok.0 ok.1);
  }

  part_sets : All (IsSet (length w)) parts
  part_sets i d lt = rw (get_or_default parts i d [] lt) (part_set laws are i lt)

  -- the members of the parts together are below the number of elements, and few
  pub union_few : AllBelow (length w) (family_union parts) × (length (family_union parts) ≤ most_elements)
  union_few =
      let set = IsSet-family_union (length w) parts part_sets in
      (set.below, omega (arith, valid.0.0, IsSet-length (length w) (family_union parts) set))

module _ (w : List Weight) (matroids : List Tree) (valid : IsValid (list w matroids)) (sound : IsSoundInstance (list w matroids))
    (parts : List (List ℕ)) (lines : List LevelLine)
    (found : IsRightUnion (length w) (map is_independent matroids) w parts (map level_of lines)) where
  ranged_line : (j : ℕ) (d : LevelLine) → j < length lines → IsRangedLevel (length w) (get_or lines j d)
  ranged_line j d lt =
      let small : j < length (map level_of lines) = omega (arith, lt, length-map lines level_of) in
      let given = found.weights.given j small in
      let cut = found.cuts j small in
      let level = level_at (map level_of lines) j in
      let within : IsCertificateWeight level.at = subst IsCertificateWeight given.2
      (weight_within_more largest_weight largest_number (weight_at w given.0) (omega arith) (weight_within_at largest_weight w valid.0.1 given.0)) in
      let set : IsSet (length w) level.cut = IsSet-subset (length w) level.cut _ cut.rises cut.inside (IsSet-those_below (length w) _) in
      let same : level ≡ level_of (get_or lines j d) = get_or-map level_of lines j d _ lt in
      let both = subst (λ (l : Level). IsCertificateWeight l.at × IsSet (length w) l.cut) same (within, set) in
      record { weight_in_range = both.0; set_in_range = both.1 }

  -- the parts with their weight and the levels are a solution
  pub union_solution : IsSolution (list w matroids) (union_of (length w) (weight w (family_union parts)) parts lines)
  union_solution =
      let as_many : length parts ≡ length matroids = found.are.one_each ∙ length-map matroids is_independent in
      let many_lines = length-map lines level_of in
      let few = few_levels w (map level_of lines) found.weights in
      record {
        ranged = record {
          few = valid.0.0;
          weight_in_range = set_in_range w (family_union parts) valid.0.1 (union_few w matroids valid sound parts found.are).1;
          parts_in_range = record { enough = omega (arith, as_many, valid.1); no_more = omega (arith, as_many, valid.2); each = part_sets w matroids valid sound parts found.are };
          few_levels = omega (arith, many_lines, few, valid.0.0);
          levels_in_range = ranged_line;
        };
        right = (refl, record { priced = refl; right = found });
        bounded = tt;
      }
