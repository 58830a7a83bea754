-- The cuts of the levels show that parts are best: for each weight no parts hold more elements of at least this weight; then those that hold as
-- many elements weigh at most as much.
use Rattle.mat_union.proofs.Common.{◌≡◌, ℕ, suc, ◌<◌, ◌≤◌, Bool, true, false, cond, List, [], ◌∷◌, length, refl, ap, subst, arith, heavy, family_union, weight_at, Weight, IsRising-family_union, below_member, heavy_members, IsSet-those_below, AreMatroids, AreParts, cut_bounds, parts_set, level_at}
use Rattle.mat_union.proofs.Common.{IsBestUnion, IsRightUnion, Level}
use Rattle.std.specs.List.{filter}
use Rattle.mat_union.proofs.Dominated.{dominated, lightest_of, weighs}

module _ {n : ℕ} {tests : List (List ℕ → Bool)} (laws : AreMatroids n tests) (w : List Weight) (long : length w ≡ n) (parts : List (List ℕ)) (levels : List Level) (r : IsRightUnion n tests w parts levels) where
  -- no others hold more elements of at least the weight of y
  at_level : (others : List (List ℕ)) → AreParts tests others → (y : ℕ) → y < n
      → length (filter (weighs (weight_at w) (weight_at w y)) (family_union others)) ≤ length (filter (weighs (weight_at w) (weight_at w y)) (family_union parts))
  at_level others are y l =
      let j = r.weights.all y (omega arith) in
      let t = (level_at levels j.0).at in
      let cut = r.cuts j.0 j.1 in
      let bound = cut_bounds tests others (heavy n w t) (level_at levels j.0).cut laws are (IsSet-those_below n (weighs (weight_at w) t)).rising cut.rises cut.inside in
      let count = cut.count in
      let a = ap length (heavy_members n w t (family_union others) (parts_set laws are)) in
      let b = ap length (heavy_members n w t (family_union parts) (parts_set laws r.are)) in
      subst (λ v. length (filter (weighs (weight_at w) v) (family_union others)) ≤ length (filter (weighs (weight_at w) v) (family_union parts))) j.2 (omega arith)

  pub right_is_best : IsBestUnion tests w parts
  right_is_best = record {
    most = λ others are. lightest_of (weight_at w) (family_union others) (λ k. k ≤ length (family_union parts)) (omega arith)
        (λ y h all. (let a = at_level others are y (below_member (parts_set laws are) h) in
        let b = ap length all in let c = filter_shorter (weighs (weight_at w) (weight_at w y)) (family_union parts) in omega arith));
    heaviest = λ others are same. dominated (length (family_union parts)) (weight_at w) (family_union parts) (family_union others) (IsRising-family_union parts) (IsRising-family_union others) refl same
        (λ y h. at_level others are y (below_member (parts_set laws are) h));
  }
    where
      filter_shorter : (f : ℕ → Bool) (X : List ℕ) → length (filter f X) ≤ length X
      filter_shorter f [] = omega arith
      filter_shorter f (x ∷ X) = by (f x) (filter_shorter f X)
        where
          by : (b : Bool) → length (filter f X) ≤ length X → length (cond b (x ∷ filter f X) (filter f X)) ≤ suc (length X)
          by true h = omega arith
          by false h = omega arith
