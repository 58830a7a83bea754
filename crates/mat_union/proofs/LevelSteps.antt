-- One level more: its elements come into the parts or are spanned, and then the spanned elements are a cut of the level. The cuts of earlier levels
-- stay right, since the parts lose no element and no parts hold more than a cut allows.
use Rattle.mat_union.proofs.Common.{◌≡◌, ℕ, ◌+◌, ◌<◌, ◌≤◌, Bool, true, false, ◌||◌, ◌&&◌, ltb, List, [], ◌∷◌, ◌++◌, length, take, inl, inr, refl, sym, ap, ◌∙◌, subst, arith, length-append, and_from, and_parts, both_ways, cases_eq, cases_lt, false_from_ne_true, lt-ltb, ltb-true, ints}
use Rattle.mat_union.proofs.Common.{get_or_append_left, map-append, take_all, take_more, falling_weights, heavy, family_union, some_below, those_below, is_member, IsRising, IsSet, IsSubset, intersection, is_same, weight_at, zero_weight, ◌≼◌, Weight, length-minus-intersection, intersection-subset}
use Rattle.mat_union.proofs.Common.{Falls-at, IsIn-place, falling_weights-Falls, falling_weights-holds, place-IsIn, IsRising-family_union, below_member, is_member-intersection, IsRising-intersection, is_member-those_below, IsSet-those_below, some_below-zero, some_below_from, some_below_gives}
use Rattle.mat_union.proofs.Common.{length-subset, or_commute, same_truth, AreDone, AreFresh, AreGrowing, level_at, IsLevelCut, IsRightUnion, AreMatroids, AreParts, cut_bounds, parts_set, ranks_reached, Level}
use Rattle.std.proofs.Math.Numerals.{add-one}
use Rattle.std.proofs.Math.Seq.{get_or-append_seam}
use Rattle.mat_sets.proofs.WeightOrder.{at_most_not, at_most_same, same_from, same_gives}
use Rattle.mat_union.proofs.Dominated.{weighs, weighs_from, weighs_gives}
use Rattle.mat_union.proofs.FallingLevels.{are_falling, level_weights}
use Rattle.mat_union.proofs.SpannedElements.{same_outside}

-- ---- done is what came

pub done_same : {n : ℕ} {tests : List (List ℕ → Bool)} {parts : List (List ℕ)} {spanned : List ℕ} (done other : ℕ → Bool) → AreMatroids n tests → AreParts tests parts → IsSet n spanned
    → ((v : ℕ) → v < n → done v ≡ other v) → AreDone n done parts spanned → AreDone n other parts spanned
done_same done other laws are s same d = record {
  placed = λ v h. sym (same v (below_member (parts_set laws are) h)) ∙ d.placed v h;
  refused = λ v h. sym (same v (below_member s h)) ∙ d.refused v h;
  all = λ v l h. d.all v l (same v l ∙ h);
}

-- ---- what came

-- whether the weight of v is one of the first i falling weights
abbrev pub came : List Weight → ℕ → ℕ → Bool
came w i v = some_below i (λ j. is_same (weight_at w v) (weight_at (falling_weights w) j))

pub none_came : (w : List Weight) (v : ℕ) → came w 0 v ≡ false
none_came w v = some_below-zero (λ j. is_same (weight_at w v) (weight_at (falling_weights w) j))

module _ (w : List Weight) (i : ℕ) (inside : i < length (falling_weights w)) where
  abbrev f : List Weight
  f = falling_weights w

  abbrev t : Weight
  t = weight_at f i

  -- at the next level come the elements that came before and those of its weight
  pub comes : (v : ℕ) → (came w i v || is_same (weight_at w v) t) ≡ came w (i + 1) v
  unfolding some_below
  comes v = rw (add-one i) (or_commute (came w i v) (is_same (weight_at w v) t))

  -- and these are those that weigh as much at least
  pub heavy_came : (v : ℕ) → v < length w → came w (i + 1) v ≡ weighs (weight_at w) t v
  heavy_came v small = same_truth (came w (i + 1) v) (weighs (weight_at w) t v)
      (λ h.
      let j = some_below_gives (i + 1) (λ k. is_same (weight_at w v) (weight_at f k)) h in
      let same = same_gives (weight_at w v) (weight_at f j.0) j.2 in
      weighs_from (weight_at w) t v (subst (λ u. t ≼ u) (sym same) (at_most j.0 (let l = j.1 in omega arith))))
      (λ h.
      let j = IsIn-place (weight_at w v) f (falling_weights-holds (weight_at w v) w (place-IsIn w v small)) in
      let least : t ≼ weight_at f j.0 = subst (λ u. t ≼ u) (sym j.2) (weighs_gives (weight_at w) t v h) in
      some_below_from (i + 1) j.0 (λ k. is_same (weight_at w v) (weight_at f k)) (before j.0 j.1 least)
      (same_from (weight_at w v) (weight_at f j.0) (sym j.2)))
    where
      at_most : (j : ℕ) → j ≤ i → t ≼ weight_at f j
      at_most j l = elim (cases_eq j i) [
        | inl e ↦ at_most_same t (weight_at f j) (ap (weight_at f) (sym e))
        | inr d ↦ (let less = Falls-at f (falling_weights-Falls w) j i (omega arith) inside in omega (arith, ints))
      ]

      before : (j : ℕ) → j < length f → t ≼ weight_at f j → j < i + 1
      before j l least = elim (cases_lt i j) [
        | inl more ↦ absurd (at_most_not t (weight_at f j) least (Falls-at f (falling_weights-Falls w) i j more l))
        | inr less ↦ omega arith
      ]

  -- what has the weight of the next level did not come before
  not_came : (v : ℕ) → weight_at w v ≡ t → came w i v ≡ false
  not_came v e = false_from_ne_true _ (λ h.
      let j = some_below_gives i (λ k. is_same (weight_at w v) (weight_at f k)) h in
      let same = same_gives (weight_at w v) (weight_at f j.0) j.2 in
      at_most_not (weight_at f j.0) t (at_most_same (weight_at f j.0) t (sym same ∙ e)) (Falls-at f (falling_weights-Falls w) j.0 i j.1 inside))

  module _ (elements : List ℕ) (are : elements ≡ those_below (length w) (λ x. is_same (weight_at w x) t)) where
    of : (x : ℕ) → is_member x elements ≡ true → (x < length w) × (weight_at w x ≡ t)
    of x h =
        let b = and_parts (ltb x (length w)) (is_same (weight_at w x) t) (sym (is_member-those_below x (length w) (λ y. is_same (weight_at w y) t)) ∙ sym (ap (is_member x) are) ∙ h) in
        (ltb-true x (length w) b.0, same_gives (weight_at w x) t b.1)

    -- the elements of the next level are new
    pub level_fresh : (n : ℕ) (parts : List (List ℕ)) (spanned : List ℕ) → length w ≡ n → AreDone n (came w i) parts spanned → AreFresh n elements parts spanned
    level_fresh n parts spanned long d = record {
      below = λ x h. (let b = (of x h).0 in omega arith);
      new = λ x h. false_from_ne_true _ (λ k. both_ways _ (not_came x (of x h).1) (d.placed x k));
      unspanned = λ x h. false_from_ne_true _ (λ k. both_ways _ (not_came x (of x h).1) (d.refused x k));
    }

    -- what is done after they came is what came then
    pub level_done : {n : ℕ} {tests : List (List ℕ → Bool)} {parts : List (List ℕ)} {spanned unspanned : List ℕ} → AreMatroids n tests → AreGrowing n tests parts spanned unspanned
        → length w ≡ n → AreDone n (λ v. came w i v || is_member v elements) parts spanned → AreDone n (came w (i + 1)) parts spanned
    level_done laws g long d = done_same (λ v. came w i v || is_member v elements) (came w (i + 1)) laws g.are g.set
        (λ v l. ap (λ b. came w i v || b) (ap (is_member v) are ∙ is_member-those_below v (length w) (λ x. is_same (weight_at w x) t) ∙ ap (λ b. b && is_same (weight_at w v) t) (lt-ltb v (length w) (omega arith)))
        ∙ comes v) d

-- ---- the cut of a level

module _ {n : ℕ} {tests : List (List ℕ → Bool)} {parts : List (List ℕ)} {spanned unspanned : List ℕ} (laws : AreMatroids n tests) (g : AreGrowing n tests parts spanned unspanned) (w : List Weight) (t : Weight)
    (d : AreDone n (weighs (weight_at w) t) parts spanned) where
  abbrev F : List ℕ
  F = heavy n w t

  in_F : (v : ℕ) → is_member v F ≡ (ltb v n && weighs (weight_at w) t v)
  in_F v = is_member-those_below v n (weighs (weight_at w) t)

  rf : IsRising F
  rf = (IsSet-those_below n (weighs (weight_at w) t)).rising

  placed_in : IsSubset (family_union parts) F
  placed_in = record { inside = λ v h. in_F v ∙ and_from (ltb v n) (weighs (weight_at w) t v) (lt-ltb v n (below_member (parts_set laws g.are) h)) (d.placed v h) }

  pub cut_of_level : IsLevelCut n tests w parts t spanned
  cut_of_level =
      let S = family_union parts in
      let rs = IsRising-family_union parts in
      let whole = ap length (intersection-subset S F rs placed_in) in
      let split = length-minus-intersection S spanned rs in
      let ranks = ranks_reached tests parts spanned laws g.are g.set.rising g.spans in
      let size = ap length (same_outside F S spanned rf rs placed_in
      (λ v h. let b = and_parts (ltb v n) (weighs (weight_at w) t v) (sym (in_F v) ∙ h) in d.all v (ltb-true v n b.0) b.1)) in
      record {
        rises = g.set.rising;
        inside = record { inside = λ v h. in_F v ∙ and_from (ltb v n) (weighs (weight_at w) t v) (lt-ltb v n (below_member g.set h)) (d.refused v h) };
        count = omega arith;
      }

-- a cut stays right where the parts lose no element
pub level_stays : {n : ℕ} {tests : List (List ℕ → Bool)} {parts parts' : List (List ℕ)} (laws : AreMatroids n tests) (w : List Weight) (t : Weight) (cut : List ℕ) → AreParts tests parts'
    → IsSubset (family_union parts) (family_union parts') → IsLevelCut n tests w parts t cut → IsLevelCut n tests w parts' t cut
level_stays {n} {tests} {parts} {parts'} laws w t cut are holds c =
    let F = heavy n w t in
    let rf = (IsSet-those_below n (weighs (weight_at w) t)).rising in
    let most = cut_bounds tests parts' F cut laws are rf c.rises c.inside in
    let least = length-subset (intersection (family_union parts) F) (intersection (family_union parts') F) (IsRising-intersection _ F (IsRising-family_union parts)) (IsRising-intersection _ F (IsRising-family_union parts'))
    (record {
      inside = λ v h. (let b = and_parts (is_member v (family_union parts)) (is_member v F) (sym (is_member-intersection v (family_union parts) F) ∙ h) in
          is_member-intersection v (family_union parts') F ∙ and_from (is_member v (family_union parts')) (is_member v F) (holds.inside v b.0) b.1);
    }) in
    let e = c.count in
    record { rises = c.rises; inside = c.inside; count = omega arith }

-- ---- the levels so far

pub record AreLevelsSo (n : ℕ) (tests : List (List ℕ → Bool)) (w : List Weight) (i : ℕ) (parts : List (List ℕ)) (levels : List Level) : Type 0 where
  pub weights : level_weights levels ≡ take i (falling_weights w)
  pub cuts : (j : ℕ) → j < length levels → IsLevelCut n tests w parts (level_at levels j).at (level_at levels j).cut

pub levels_none : (n : ℕ) (tests : List (List ℕ → Bool)) (w : List Weight) (parts : List (List ℕ)) (levels : List Level) → levels ≡ [] → AreLevelsSo n tests w 0 parts levels
levels_none n tests w parts levels e = rw e (record { weights = refl; cuts = λ j l. absurd (omega arith) })

module _ {n : ℕ} {tests : List (List ℕ → Bool)} {w : List Weight} {i : ℕ} {parts parts' : List (List ℕ)} {levels : List Level} (laws : AreMatroids n tests) (long : length w ≡ n)
    (inside : i < length (falling_weights w)) (so : AreLevelsSo n tests w i parts levels) where
  module _ (spanned unspanned : List ℕ) (g : AreGrowing n tests parts' spanned unspanned) (d : AreDone n (came w (i + 1)) parts' spanned)
      (holds : IsSubset (family_union parts) (family_union parts')) (v : Level) (at : v.at ≡ weight_at (falling_weights w) i) (cut : v.cut ≡ spanned) where
    by_place : (P : Level → Type 0) (j : ℕ) → j < length (levels ++ v ∷ []) → (j < length levels → P (level_at levels j)) → P v → P (level_at (levels ++ v ∷ []) j)
    by_place P j l f h = elim (cases_eq j (length levels)) [
      | inl e ↦ subst (λ k. P (level_at (levels ++ v ∷ []) k)) (sym e) (subst P (sym (get_or-append_seam levels v [] _)) h)
      | inr e ↦
          let less : j < length levels = (let s = length-append levels (v ∷ []) in omega arith) in
          subst P (sym (get_or_append_left levels (v ∷ []) _ j less)) (f less)
    ]

    pub levels_more : AreLevelsSo n tests w (i + 1) parts' (levels ++ v ∷ [])
    levels_more = record {
      weights = map-append (λ (level : Level). level.at) levels (v ∷ []) ∙ ap (λ ws. ws ++ v.at ∷ []) so.weights
          ∙ ap (λ u. take i (falling_weights w) ++ u ∷ []) at ∙ sym (take_more (falling_weights w) i zero_weight inside);
      cuts = λ j l. by_place (λ b. IsLevelCut n tests w parts' b.at b.cut) j l
          (λ less. level_stays laws w (level_at levels j).at (level_at levels j).cut g.are holds (so.cuts j less)) own;
    }
      where
        two : (a b : Weight) (x y : List ℕ) → a ≡ b → x ≡ y → IsLevelCut n tests w parts' b y → IsLevelCut n tests w parts' a x
        two a b x y e f h = rw (e, f) h

        own : IsLevelCut n tests w parts' v.at v.cut
        own = two v.at (weight_at (falling_weights w) i) v.cut spanned at cut (cut_of_level laws g w (weight_at (falling_weights w) i)
            (done_same (came w (i + 1)) (weighs (weight_at w) (weight_at (falling_weights w) i)) laws g.are g.set
            (λ u l. heavy_came w i inside u (omega arith)) d))

-- where all weights came
pub levels_end : (n : ℕ) (tests : List (List ℕ → Bool)) (w : List Weight) (i : ℕ) (parts : List (List ℕ)) (levels : List Level) → AreLevelsSo n tests w i parts levels → AreParts tests parts
    → length (falling_weights w) ≤ i → IsRightUnion n tests w parts levels
levels_end n tests w i parts levels so are all = record {
  are = are;
  weights = are_falling w levels (so.weights ∙ take_all i (falling_weights w) all);
  cuts = so.cuts;
}
