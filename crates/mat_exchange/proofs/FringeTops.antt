-- The tops of the buckets of a fringe: an offer raises one of them, one is sought again when a member leaves, and the heaviest of them is a heaviest
-- member.
use Rattle.mat_exchange.proofs.Common.{◌≡◌, ◌≢◌, ℕ, ◌*◌, ◌/◌, ◌<◌, ◌≤◌, true, not, ◌&&◌, cond, eqb, List, length, set, Option, Some, None, IfSome, inl, inr, refl, sym, ap, ◌∙◌, subst, arith, cases_Bool, cases_eq, both_ways, and_parts, and_right, eq-eqb}
use Rattle.mat_exchange.proofs.Common.{ne_eqb, false_from_ne_true, get_or-set_same, get_or-set_other, length-set, is_member, without_one, is_member-without_one, and_all, ◌≼◌, is_below, weight_at, Weight, at_most_same, at_most_trans, below_at_most}
use Rattle.mat_exchange.proofs.Common.{not_below_gives, IsHeaviestOf, IsHeaviestOrNone, IsMet, IsOffered, heavier_of, IsHeaviestToOrNone, in_bucket, AreTops, top_at}
use Rattle.mat_exchange.proofs.HeaviestMembers.{bucket_parts, bucket_from, heaviest_below, heaviest_to_all}
use mathlib.Core.Path.{fun_ext}

-- ---- one top is written

module _ (members : List ℕ) (w : ℕ → Weight) (tops : List (Option ℕ)) (i : ℕ) (top : Option ℕ) (inside : i < length tops)
    (here : IsHeaviestOrNone (in_bucket members i) w top)
    (others : (at : ℕ) → at ≢ i → IsHeaviestOrNone (in_bucket members at) w (top_at tops at)) where
  top_written : (at : ℕ) → IsHeaviestOrNone (in_bucket members at) w (top_at (set tops i top) at)
  top_written at = elim (cases_eq at i) [
    | inl same ↦ subst (λ k. IsHeaviestOrNone (in_bucket members k) w (top_at (set tops i top) k)) (sym same)
        (subst (IsHeaviestOrNone (in_bucket members i) w) (sym (get_or-set_same tops i top None inside)) here)
    | inr other ↦ subst (IsHeaviestOrNone (in_bucket members at) w) (sym (get_or-set_other tops i at top None other)) (others at other)
  ]

-- a number of another bucket is another number
apart : (at i x z : ℕ) → at ≢ i → x / 64 ≡ at → z / 64 ≡ i → x ≢ z
apart at i x z differ ex ez e = differ (sym ex ∙ ap (λ v. v / 64) e ∙ ez)

-- ---- an offer

module _ (F F' : List ℕ) (g g' : List Weight) (z : ℕ) (gain : Weight)
    (o : IsOffered (λ v. eqb v z) (λ v. gain) F (weight_at g) F' (weight_at g')) where
  met : IsMet gain z F (weight_at g) F' (weight_at g')
  met = o.met z (eq-eqb z z refl)

  -- what was a member is one, and its gain is no less
  stays : (t : ℕ) → is_member t F ≡ true → (is_member t F' ≡ true) × (weight_at g t ≼ weight_at g' t)
  stays t m = elim (cases_eq t z) [
    | inl same ↦ (let now = o.met t (eq-eqb t z same) in (now.inside, now.old m))
    | inr other ↦ (let k = o.kept t (ne_eqb t z other) in (k.0 ∙ m, at_most_same (weight_at g t) (weight_at g' t) (sym k.1)))
  ]

  -- what is a member besides z was one, with the same gain
  before : (y : ℕ) → y ≢ z → is_member y F' ≡ true → (is_member y F ≡ true) × (weight_at g' y ≡ weight_at g y)
  before y other m = let k = o.kept y (ne_eqb y z other) in (sym k.0 ∙ m, k.1)

  -- such a member has a gain of at most that of the top that was
  low : (at t : ℕ) → IsHeaviestOf (in_bucket F at) (weight_at g) t → (y : ℕ) → y ≢ z → in_bucket F' at y ≡ true → weight_at g' y ≼ weight_at g' t
  low at t h y other k =
      let p = bucket_parts F' at y k in
      let b = before y other p.0 in
      at_most_trans (weight_at g' y) (weight_at g y) (weight_at g' t) (at_most_same (weight_at g' y) (weight_at g y) b.1)
      (at_most_trans (weight_at g y) (weight_at g t) (weight_at g' t) (h.most y (bucket_from F at y b.0 p.1))
      (stays t (bucket_parts F at t h.passes).0).1)

  z_passes : in_bucket F' (z / 64) z ≡ true
  z_passes = bucket_from F' (z / 64) z met.inside refl

  -- in the bucket of z
  raised_here : (top : Option ℕ) → IsHeaviestOrNone (in_bucket F (z / 64)) (weight_at g) top
      → IsHeaviestOrNone (in_bucket F' (z / 64)) (weight_at g') (heavier_of (weight_at g') top z)
  raised_here None none = record {
    passes = z_passes;
    most = λ y k. elim (cases_eq y z) [
      | inl same ↦ at_most_same (weight_at g' y) (weight_at g' z) (ap (weight_at g') same)
      | inr other ↦ absurd (let p = bucket_parts F' (z / 64) y k in
          both_ways _ (none y) (bucket_from F (z / 64) y (before y other p.0).0 p.1))
    ];
  }
  raised_here (Some t) h = elim (cases_Bool (is_below (weight_at g' t) (weight_at g' z))) [
    | inl more ↦ subst (λ c. IsHeaviestOf (in_bucket F' (z / 64)) (weight_at g') (cond c z t)) (sym more) (record {
      passes = z_passes;
      most = λ y k. elim (cases_eq y z) [
        | inl same ↦ at_most_same (weight_at g' y) (weight_at g' z) (ap (weight_at g') same)
        | inr other ↦ at_most_trans (weight_at g' y) (weight_at g' t) (weight_at g' z) (low (z / 64) t h y other k)
            (below_at_most (weight_at g' t) (weight_at g' z) more)
      ];
    })
    | inr less ↦ subst (λ c. IsHeaviestOf (in_bucket F' (z / 64)) (weight_at g') (cond c z t)) (sym less) (record {
      passes = (let p = bucket_parts F (z / 64) t h.passes in bucket_from F' (z / 64) t (stays t p.0).0 p.1);
      most = λ y k. elim (cases_eq y z) [
        | inl same ↦ at_most_trans (weight_at g' y) (weight_at g' z) (weight_at g' t)
            (at_most_same (weight_at g' y) (weight_at g' z) (ap (weight_at g') same))
            (not_below_gives (weight_at g' t) (weight_at g' z) less)
        | inr other ↦ low (z / 64) t h y other k
      ];
    })
  ]

  -- in the other buckets
  kept_there : (at : ℕ) → at ≢ z / 64 → (top : Option ℕ) → IsHeaviestOrNone (in_bucket F at) (weight_at g) top
      → IsHeaviestOrNone (in_bucket F' at) (weight_at g') top
  kept_there at differ None none = λ x. false_from_ne_true (in_bucket F' at x) (λ k.
      let p = bucket_parts F' at x k in
      both_ways _ (none x) (bucket_from F at x (before x (apart at (z / 64) x z differ p.1 refl) p.0).0 p.1))
  kept_there at differ (Some t) h = record {
    passes = (let p = bucket_parts F at t h.passes in bucket_from F' at t (stays t p.0).0 p.1);
    most = λ y k. low at t h y (apart at (z / 64) y z differ (bucket_parts F' at y k).1 refl) k;
  }

  pub tops_offered : {tops tops' : List (Option ℕ)} → z < length g → length g' ≡ length g
      → tops' ≡ set tops (z / 64) (heavier_of (weight_at g') (top_at tops (z / 64)) z) → AreTops F g tops → AreTops F' g' tops'
  tops_offered {tops} {tops'} inside long made h = rw made (record {
    below = λ x m. elim (cases_eq x z) [
      | inl same ↦ omega (arith, same, inside, long)
      | inr other ↦ (let l = h.below x (before x other m).0 in omega (arith, l, long))
    ];
    room = (let r = h.room in let e = length-set tops (z / 64) (heavier_of (weight_at g') (top_at tops (z / 64)) z) in omega (arith, r, e, long));
    each = top_written F' (weight_at g') tops (z / 64) (heavier_of (weight_at g') (top_at tops (z / 64)) z) (let r = h.room in omega (arith, r, inside))
        (raised_here (top_at tops (z / 64)) (h.each (z / 64))) (λ at differ. kept_there at differ (top_at tops at) (h.each at));
  })

-- ---- a member leaves

-- the buckets in which it was not are as before
kept_without : (F : List ℕ) (w : ℕ → Weight) (x at : ℕ) → at ≢ x / 64 → (top : Option ℕ) → IsHeaviestOrNone (in_bucket F at) w top
    → IsHeaviestOrNone (in_bucket (without_one F x) at) w top
kept_without F w x at differ top h = subst (λ test. IsHeaviestOrNone test w top) (fun_ext same) h
  where
    same : (y : ℕ) → in_bucket F at y ≡ in_bucket (without_one F x) at y
    same y = elim (cases_eq (y / 64) at) [
      | inl e ↦ ap (λ m. m && eqb (y / 64) at) (sym (is_member-without_one y x F
          ∙ ap (λ b. is_member y F && not b) (ne_eqb y x (apart at (x / 64) y x differ e refl)) ∙ and_all (is_member y F)))
      | inr d ↦ and_right (is_member y F) (eqb (y / 64) at) (ne_eqb (y / 64) at d)
          ∙ sym (and_right (is_member y (without_one F x)) (eqb (y / 64) at) (ne_eqb (y / 64) at d))
    ]

pub tops_left : {F F' : List ℕ} {g : List Weight} {tops tops' : List (Option ℕ)} (x : ℕ) (top : Option ℕ) → x < length g → F' ≡ without_one F x
    → IsHeaviestOrNone (in_bucket F' (x / 64)) (weight_at g) top → tops' ≡ set tops (x / 64) top → AreTops F g tops → AreTops F' g tops'
tops_left {F} {F'} {g} {tops} {tops'} x top inside e found made h = rw (e, made) (record {
  below = λ y m. h.below y (and_parts (is_member y F) (not (eqb y x)) (sym (is_member-without_one y x F) ∙ m)).0;
  room = (let r = h.room in let k = length-set tops (x / 64) top in omega (arith, r, k));
  each = top_written (without_one F x) (weight_at g) tops (x / 64) top (let r = h.room in omega (arith, r, inside))
      (subst (λ S. IsHeaviestOrNone (in_bucket S (x / 64)) (weight_at g) top) e found)
      (λ at differ. kept_without F (weight_at g) x at differ (top_at tops at) (h.each at));
})

-- the members that are left are below the length
pub left_below : (F : List ℕ) {F' : List ℕ} {n : ℕ} (x : ℕ) → F' ≡ without_one F x → ((y : ℕ) → is_member y F ≡ true → y < n) → (y : ℕ)
    → is_member y F' ≡ true → y < n
left_below F {F'} {n} x e below y m =
    below y (and_parts (is_member y F) (not (eqb y x)) (sym (is_member-without_one y x F) ∙ ap (is_member y) (sym e) ∙ m)).0

-- ---- the heaviest

pub tops_below : {F : List ℕ} {g : List Weight} {tops : List (Option ℕ)} → AreTops F g tops → (at : ℕ) → IfSome (top_at tops at) (λ y. y < length g)
tops_below {F} {g} {tops} h at =
    heaviest_below (in_bucket F at) (weight_at g) (length g) (top_at tops at) (λ x k. h.below x (bucket_parts F at x k).0) (h.each at)

-- all buckets are gone through
pub heaviest_of_all : {F : List ℕ} {g : List Weight} {tops : List (Option ℕ)} (at : ℕ) (found : Option ℕ) → AreTops F g tops → length tops ≤ at
    → IsHeaviestToOrNone (λ x. is_member x F) (weight_at g) (at * 64) found → IsHeaviestOrNone (λ x. is_member x F) (weight_at g) found
heaviest_of_all {F} {g} {tops} at found h past to =
    heaviest_to_all (λ x. is_member x F) (weight_at g) (at * 64) found
    (λ x le. false_from_ne_true (is_member x F) (λ m. let r = h.room in let l = h.below x m in omega (arith, r, l, past, le))) to
