-- The search that ends at the first goal that it meets. What was found is told by the number of steps to it, which falls along the trace back;
-- where no goal is met, what was found is closed among the live vertices.
use Rattle.mat_flow.proofs.Common.{◌≡◌, ℕ, zero, suc, ◌+◌, ◌-◌, ◌<◌, ◌≤◌, Bool, true, false, not, ◌&&◌, ◌||◌, eqb, ltb, cond, List, [], ◌∷◌, ◌++◌, length, get_or, set, take, is_some, Option, Some, None, ◌⊎◌, inl, inr, refl, sym, ap, ◌∙◌, subst, arith, and_from, and_parts, both_ways, cases_Bool}
use Rattle.mat_flow.proofs.Common.{cases_lt, eq-eqb, eqb-true, false_from_ne_true, false≢true, lt-ltb, or_cases, or_left, or_right, not-true, get_or_default, length_push, IsFirstFrom, all_below, is_member, with_one, without_one, AreDistinct, IsRising, IsReachedSet, below_member, is_member-all_below}
use Rattle.mat_flow.proofs.Common.{AllBelow-from_members, length-distinct_below, is_member-push, AreDistinct-append, AreDistinct-index, is_member-get_or, is_member-with_one, place_of_member, same_members, reached_by_induction, reached_set_exists, AreTaken-more, AreTaken-rest, is_member-take_more}
use Rattle.mat_flow.proofs.Common.{same_truth, IsChain, IsFollowed, IsFreeWalk, IsShut, IsSpent, IsTake, IsTraced}
use Rattle.std.proofs.lemmas.Option.{none-some, same_Some}
use Rattle.mat_sets.specs.Rounds.{AreTaken}
use Rattle.mat_flow.specs.Seeking.{Comes}

-- ---- the loops over arcs

-- a list with one item more has the same items before
get_or-push : (xs : List ℕ) (x i : ℕ) → i < length xs → get_or (xs ++ x ∷ []) i 0 ≡ get_or xs i 0
get_or-push [] x i l = absurd (omega arith)
get_or-push (y ∷ xs) x zero l = refl
get_or-push (y ∷ xs) x (suc i) l = get_or-push xs x i (omega arith)

pub IsFollowed-more : (test : ℕ → Bool) (u x : ℕ) (live found before rest more after : List ℕ)
    → AreTaken test u live found before rest more after → is_member x rest ≡ true → IsFollowed live found more
    → IsFollowed live found (more ++ x ∷ [])
IsFollowed-more test u x live found before rest more after t m f = record {
  long = (let a = length_push more x in let b = f.long in omega arith);
  same = λ i l. get_or-push more x i (let b = f.long in omega arith) ∙ f.same i l;
  distinct = λ d apart. AreDistinct-append more (x ∷ []) (f.distinct d apart) (refl, tt) (λ z on. false_from_ne_true _ (λ also.
      let same : z ≡ x = elim (or_cases (eqb z x) false also) [ inl e ↦ eqb-true z x e | inr n ↦ absurd (false≢true n) ] in
      both_ways (is_member x more) (not_yet (is_member x more) (is_member x rest) (is_member x live) (test x) (is_member x found) (t.more_is x) (t.rest_is x) m
      (apart x)) (subst (λ y. is_member y more ≡ true) same on)));
}
  where
    not_yet : (o r m a f : Bool) → o ≡ (f || (m && a)) → r ≡ (m && not a) → r ≡ true → (m ≡ true → f ≡ false) → o ≡ false
    not_yet o r m a f e g h k = grind arith

-- what is found beside is missed
pub missed_more : (goal : ℕ → Bool) (x : ℕ) (found more : List ℕ)
    → ((v : ℕ) → is_member v more ≡ true → is_member v found ≡ false → goal v ≡ false) → goal x ≡ false
    → (v : ℕ) → is_member v (more ++ x ∷ []) ≡ true → is_member v found ≡ false → goal v ≡ false
missed_more goal x found more none not_x v m out = elim (or_cases (is_member v more) (eqb v x) (sym (is_member-push v x more) ∙ m)) [
  | inl old ↦ none v old out
  | inr same ↦ ap goal (eqb-true v x same) ∙ not_x
]

pub last_found : (x : ℕ) (found : List ℕ) → is_member x (found ++ x ∷ []) ≡ true
last_found x found = is_member-push x x found ∙ or_right (is_member x found) (eqb x x) (eq-eqb x x refl)

-- the vertices below `from` that pass are found, with u before each, and none of them is a goal
pub record IsTaking (n : ℕ) (test goal : ℕ → Bool) (u : ℕ) (live found before : List ℕ) (from : ℕ) (rest more after : List ℕ) : Type 0 where
  pub within : from ≤ n
  pub taken : AreTaken (λ x. ltb x from && test x) u live found before rest more after
  pub missed : (v : ℕ) → is_member v more ≡ true → is_member v found ≡ false → goal v ≡ false
  pub followed : IsFollowed live found more

module _ (n : ℕ) (test goal : ℕ → Bool) (u : ℕ) (live found before : List ℕ) (from : ℕ) (rest more after : List ℕ)
    (inside : (v : ℕ) → is_member v live ≡ true → v < n) (long : length before ≡ n) (t : IsTaking n test goal u live found before from rest more after)
    (x : ℕ) (f : IsFirstFrom (λ v. is_member v rest && test v) from x) where
  still_live : is_member x rest ≡ true
  still_live = (and_parts _ _ f.passes).0

  taken_below : x < n
  taken_below = inside x (AreTaken-rest _ u live found before rest more after x t.taken still_live)

  taken_more : AreTaken (λ v. ltb v (x + 1) && test v) u live found before (without_one rest x) (more ++ x ∷ []) (set after x u)
  taken_more = AreTaken-more test u from x live found before rest more after t.taken f (let l = taken_below in let e = t.taken.long in omega (arith, long))

  pub followed_more : IsFollowed live found (more ++ x ∷ [])
  followed_more = IsFollowed-more _ u x live found before rest more after t.taken still_live t.followed

  pub IsTaking-more : goal x ≡ false
      → IsTaking n test goal u live found before (x + 1) (without_one rest x) (more ++ x ∷ []) (set after x u)
  IsTaking-more miss = record {
    within = (let l = taken_below in omega arith);
    taken = taken_more;
    missed = missed_more goal x found more t.missed miss;
    followed = followed_more;
  }

  -- the first goal ends it
  pub goal_taken : goal x ≡ true → IsTake test goal u live found before (without_one rest x) (more ++ x ∷ []) (set after x u) (Some x)
  goal_taken hit = (taken_more, last_found x more, hit)

-- ---- what was found

pub IsChain-none : (n : ℕ) (arc : ℕ → ℕ → Bool) (start : ℕ → Bool) (live before : List ℕ) → ((v : ℕ) → is_member v live ≡ true → v < n)
    → length before ≡ n → IsChain n arc start live live [] before
IsChain-none n arc start live before below long = record {
  depth = λ v. 0;
  below = below;
  rest_is = λ v. all (is_member v live);
  inside = λ v m. absurd (false≢true m);
  comes = λ v m. absurd (false≢true m);
  long = long;
}
  where
    all : (b : Bool) → b ≡ (b && not false)
    all b = grind arith

module _ (n : ℕ) (arc : ℕ → ℕ → Bool) (start : ℕ → Bool) (live rest found before : List ℕ) (c : IsChain n arc start live rest found before)
    (test : ℕ → Bool) (u next : ℕ) (less more after : List ℕ) (t : AreTaken test u rest found before less more after)
    (leads : (v : ℕ) → test v ≡ true → ((u ≡ n) × (start v ≡ true) × (next ≡ 0)) ⊎ ((is_member u found ≡ true) × (arc u v ≡ true) × (next ≡ suc (c.depth u)))) where
  abbrev deep : ℕ → ℕ
  deep v = cond (is_member v found) (c.depth v) next

  deep_old : (v : ℕ) → is_member v found ≡ true → deep v ≡ c.depth v
  deep_old v m = ap (λ b. cond b (c.depth v) next) m

  deep_new : (v : ℕ) → is_member v found ≡ false → deep v ≡ next
  deep_new v m = ap (λ b. cond b (c.depth v) next) m

  stays : (v : ℕ) → is_member v found ≡ true → is_member v more ≡ true
  stays v m = t.more_is v ∙ or_left (is_member v found) (is_member v rest && test v) m

  -- what was found has the same vertex before it
  kept : (v : ℕ) → is_member v found ≡ true → get_or after v 0 ≡ get_or before v 0
  kept v m = t.after_is v ∙ ap (λ b. cond (b && test v) u (get_or before v 0)) (out (is_member v rest) (is_member v live) (is_member v found) (c.rest_is v) m)
    where
      out : (r l f : Bool) → r ≡ (l && not f) → f ≡ true → r ≡ false
      out r l f e g = grind arith

  new_is : (v : ℕ) → is_member v more ≡ true → is_member v found ≡ false → (is_member v rest && test v) ≡ true
  new_is v m out = elim (or_cases (is_member v found) (is_member v rest && test v) (sym (t.more_is v) ∙ m)) [
    | inl f ↦ absurd (both_ways _ out f)
    | inr b ↦ b
  ]

  old_comes : (v : ℕ) → is_member v found ≡ true → Comes n arc start found before c.depth v → Comes n arc start more after deep v
  old_comes v f (inl a) = inl (kept v f ∙ a.0, a.1, deep_old v f ∙ a.2)
  old_comes v f (inr a) = inr (
    ap (λ x. is_member x more) (kept v f) ∙ stays (get_or before v 0) a.0,
    ap (λ x. arc x v) (kept v f) ∙ a.1,
    deep_old v f ∙ a.2 ∙ ap suc (sym (ap deep (kept v f) ∙ deep_old (get_or before v 0) a.0)),
  )

  new_comes : (v : ℕ) → is_member v more ≡ true → is_member v found ≡ false → Comes n arc start more after deep v
  new_comes v m f =
      let b = new_is v m f in
      let at : get_or after v 0 ≡ u = t.after_is v ∙ ap (λ x. cond x u (get_or before v 0)) b in
      elim (leads v (and_parts (is_member v rest) (test v) b).1) [
        | inl a ↦ inl (at ∙ a.0, a.1, deep_new v f ∙ a.2)
        | inr a ↦ inr (
          ap (λ x. is_member x more) at ∙ stays u a.0,
          ap (λ x. arc x v) at ∙ a.1,
          deep_new v f ∙ a.2 ∙ ap suc (sym (ap deep at ∙ deep_old u a.0)),
        )
      ]

  left : (l r m f o a : Bool) → l ≡ (r && not a) → r ≡ (m && not f) → o ≡ (f || (r && a)) → l ≡ (m && not o)
  left l r m f o a e g h = grind arith

  pub IsChain-taken : IsChain n arc start live less more after
  IsChain-taken = record {
    depth = deep;
    below = c.below;
    rest_is = λ v. left (is_member v less) (is_member v rest) (is_member v live) (is_member v found) (is_member v more) (test v) (t.rest_is v) (c.rest_is v) (t.more_is v);
    inside = λ v m. elim (cases_Bool (is_member v found)) [
      | inl f ↦ c.inside v f
      | inr f ↦ (and_parts (is_member v live) (not (is_member v found)) (sym (c.rest_is v) ∙ (and_parts (is_member v rest) (test v) (new_is v m f)).0)).0
    ];
    comes = λ v m. elim (cases_Bool (is_member v found)) [
      | inl f ↦ old_comes v f (c.comes v f)
      | inr f ↦ new_comes v m f
    ];
    long = t.long ∙ c.long;
  }

-- ---- the search

-- what holds as long as no goal is met: the starts and the arcs from the first vertices lead to no live vertex
pub record IsOpen (arc : ℕ → ℕ → Bool) (start goal : ℕ → Bool) (at : ℕ) (rest found : List ℕ) : Type 0 where
  pub starts : (v : ℕ) → start v ≡ true → is_member v rest ≡ false
  pub scanned : (i v : ℕ) → i < at → arc (get_or found i 0) v ≡ true → is_member v rest ≡ false
  pub missed : (v : ℕ) → is_member v found ≡ true → goal v ≡ false

pub record IsLooking (n : ℕ) (arc : ℕ → ℕ → Bool) (start goal : ℕ → Bool) (live : List ℕ) (at : ℕ) (rest found before : List ℕ) (end : Option ℕ) : Type 0 where
  pub chain : IsChain n arc start live rest found before
  pub distinct : AreDistinct found
  pub past : at ≤ length found
  pub still : end ≡ None → IsOpen arc start goal at rest found
  pub hit : (g : ℕ) → end ≡ Some g → (is_member g found ≡ true) × (goal g ≡ true)

module _ (n : ℕ) (arc : ℕ → ℕ → Bool) (start goal : ℕ → Bool) (live : List ℕ) where
  pub found_few : (at : ℕ) (rest found before : List ℕ) (end : Option ℕ) → IsLooking n arc start goal live at rest found before end → length found ≤ n
  found_few at rest found before end k =
      length-distinct_below n found k.distinct (AllBelow-from_members n found (λ v m. k.chain.below v (k.chain.inside v m)))

  pub found_below : (at i : ℕ) (rest found before : List ℕ) (end : Option ℕ) → IsLooking n arc start goal live at rest found before end
      → i < length found → get_or found i 0 < n
  found_below at i rest found before end k l =
      k.chain.below (get_or found i 0) (k.chain.inside (get_or found i 0) (is_member-get_or found i (get_or found i 0) l refl))

  pub rest_below : (at : ℕ) (rest found before : List ℕ) (end : Option ℕ) → IsLooking n arc start goal live at rest found before end
      → (v : ℕ) → is_member v rest ≡ true → v < n
  rest_below at rest found before end k v m =
      k.chain.below v (and_parts (is_member v live) (not (is_member v found)) (sym (k.chain.rest_is v) ∙ m)).0

  IsOpen-start : (below : (v : ℕ) → is_member v live ≡ true → v < n) (before rest more after : List ℕ) → AreTaken start n live [] before rest more after
      → ((v : ℕ) → is_member v more ≡ true → false ≡ false → goal v ≡ false) → IsOpen arc start goal 0 rest more
  IsOpen-start below before rest more after t none = record {
    starts = λ v s. t.rest_is v ∙ ap (λ b. is_member v live && not b) s ∙ nothing (is_member v live);
    scanned = λ i v l a. absurd (omega arith);
    missed = λ v m. none v m refl;
  }
    where
      nothing : (b : Bool) → (b && not true) ≡ false
      nothing b = grind arith

  pub look_start : (before rest more after : List ℕ) (end : Option ℕ) → ((v : ℕ) → is_member v live ≡ true → v < n) → length before ≡ n
      → IsTake start goal n live [] before rest more after end → IsFollowed live [] more
      → IsLooking n arc start goal live 0 rest more after end
  look_start before rest more after None below long t f = record {
    chain = IsChain-taken n arc start live live [] before (IsChain-none n arc start live before below long) start n 0 rest more after t.0
        (λ v s. inl (refl, s, refl));
    distinct = f.distinct tt (λ v m. refl);
    past = omega arith;
    still = λ e. IsOpen-start below before rest more after t.0 t.1;
    hit = λ g e. absurd (none-some g e);
  }
  look_start before rest more after (Some g) below long t f = record {
    chain = IsChain-taken n arc start live live [] before (IsChain-none n arc start live before below long) (λ x. ltb x (g + 1) && start x) n 0 rest more after t.0
        (λ v s. inl (refl, (and_parts (ltb v (g + 1)) (start v) s).1, refl));
    distinct = f.distinct tt (λ v m. refl);
    past = omega arith;
    still = λ e. absurd (none-some g (sym e));
    hit = λ h e. subst (λ x. (is_member x more ≡ true) × (goal x ≡ true)) (same_Some g h e) (t.1, t.2);
  }

  module _ (at : ℕ) (rest found before : List ℕ) (k : IsLooking n arc start goal live at rest found before None) (l : at < length found)
      (less more after : List ℕ) (f : IsFollowed rest found more) where
    abbrev u : ℕ
    u = get_or found at 0

    u_found : is_member u found ≡ true
    u_found = is_member-get_or found at u l refl

    apart : (v : ℕ) → is_member v rest ≡ true → is_member v found ≡ false
    apart v m = not-true (is_member v found) (and_parts (is_member v live) (not (is_member v found)) (sym (k.chain.rest_is v) ∙ m)).1

    IsOpen-next : AreTaken (arc u) u rest found before less more after
        → ((v : ℕ) → is_member v more ≡ true → is_member v found ≡ false → goal v ≡ false) → IsOpen arc start goal (at + 1) less more
    IsOpen-next t none =
        let open' = k.still refl in
        record {
          starts = λ v s. fewer v (t.rest_is v) (open'.starts v s);
          scanned = λ i v m a. elim (cases_lt i at) [
            | inl old ↦ fewer v (t.rest_is v) (open'.scanned i v old (ap (λ x. arc x v) (sym (f.same i (omega arith))) ∙ a))
            | inr here ↦ (let e : i ≡ at = omega arith in
                let b : arc u v ≡ true = ap (λ x. arc x v) (sym (ap (λ j. get_or more j 0) e ∙ f.same at l)) ∙ a in
                t.rest_is v ∙ ap (λ b. is_member v rest && not b) b ∙ nothing (is_member v rest))
          ];
          missed = λ v m. elim (cases_Bool (is_member v found)) [ inl old ↦ open'.missed v old | inr new ↦ none v m new ];
        }
      where
        fewer : (v : ℕ) → is_member v less ≡ (is_member v rest && not (arc u v)) → is_member v rest ≡ false → is_member v less ≡ false
        fewer v e o = gone (is_member v less) (is_member v rest) (arc u v) e o
          where
            gone : (a b c : Bool) → a ≡ (b && not c) → b ≡ false → a ≡ false
            gone a b c e o = grind arith

        nothing : (b : Bool) → (b && not true) ≡ false
        nothing b = grind arith

    pub look_next : (end : Option ℕ) → IsTake (arc u) goal u rest found before less more after end
        → IsLooking n arc start goal live (at + 1) less more after end
    look_next None t = record {
      chain = IsChain-taken n arc start live rest found before k.chain (arc u) u (suc (k.chain.depth u)) less more after t.0
          (λ v a. inr (u_found, a, refl));
      distinct = f.distinct k.distinct apart;
      past = (let b = f.long in omega arith);
      still = λ e. IsOpen-next t.0 t.1;
      hit = λ g e. absurd (none-some g e);
    }
    look_next (Some g) t = record {
      chain = IsChain-taken n arc start live rest found before k.chain (λ x. ltb x (g + 1) && arc u x) u (suc (k.chain.depth u)) less more after t.0
          (λ v a. inr (u_found, (and_parts (ltb v (g + 1)) (arc u v) a).1, refl));
      distinct = f.distinct k.distinct apart;
      past = (let b = f.long in omega arith);
      still = λ e. absurd (none-some g (sym e));
      hit = λ h e. subst (λ x. (is_member x more ≡ true) × (goal x ≡ true)) (same_Some g h e) (t.1, t.2);
    }

  -- ---- nothing is met

  -- what was found is reached: by induction on the number of steps
  chain_reached : (rest found before : List ℕ) (c : IsChain n arc start live rest found before) (f : ℕ → Bool)
      → ((v : ℕ) → v < n → start v ≡ true → f v ≡ true) → ((u v : ℕ) → v < n → f u ≡ true → arc u v ≡ true → f v ≡ true)
      → (d v : ℕ) → c.depth v ≡ d → is_member v found ≡ true → f v ≡ true
  chain_reached rest found before c f base step zero v e m = elim (c.comes v m) [
    | inl a ↦ base v (c.below v (c.inside v m)) a.1
    | inr a ↦ (let s = a.2 in absurd (omega arith))
  ]
  chain_reached rest found before c f base step (suc d) v e m = elim (c.comes v m) [
    | inl a ↦ base v (c.below v (c.inside v m)) a.1
    | inr a ↦ step (get_or before v 0) v (c.below v (c.inside v m))
        (chain_reached rest found before c f base step d (get_or before v 0) (let s = a.2 in omega arith) a.0) a.1
  ]

  pub look_end : (at : ℕ) (rest found before : List ℕ) → IsLooking n arc start goal live at rest found before None → length found ≤ at
      → IsSpent n arc start goal live rest
  look_end at rest found before k l =
      let c = k.chain in
      let open' = k.still refl in
      let out : (v : ℕ) → is_member v live ≡ true → is_member v rest ≡ false → is_member v found ≡ true =
      λ v m o. gone (is_member v rest) (is_member v live) (is_member v found) (c.rest_is v) m o in
      record {
        fewer = λ v m. (and_parts (is_member v live) (not (is_member v found)) (sym (c.rest_is v) ∙ m)).0;
        starts = open'.starts;
        closed = λ u v m o a. (let p = place_of_member u found (out u m o) in
            let q = p.1 in open'.scanned p.0 v (omega arith) (ap (λ x. arc x v) p.2 ∙ a));
        missed = λ v m o. open'.missed v (out v m o);
        reached = λ f base step v m o. chain_reached rest found before c f base step (c.depth v) v refl (out v m o);
      }
    where
      gone : (r m f : Bool) → r ≡ (m && not f) → m ≡ true → r ≡ false → f ≡ true
      gone r m f e a b = grind arith

  pub look_found : (at : ℕ) (rest found before : List ℕ) (end : Option ℕ) → IsLooking n arc start goal live at rest found before end
      → (v : ℕ) → is_member v found ≡ (is_member v live && not (is_member v rest))
  look_found at rest found before end k v = taken (is_member v rest) (is_member v live) (is_member v found) (k.chain.rest_is v) (k.chain.inside v)
    where
      taken : (r l f : Bool) → r ≡ (l && not f) → (f ≡ true → l ≡ true) → f ≡ (l && not r)
      taken r l f e i = grind arith

  -- ---- a goal is met

  pub look_hit : (at : ℕ) (rest found before : List ℕ) (g : ℕ) (vertices back : List ℕ) → IsLooking n arc start goal live at rest found before (Some g)
      → IsTraced n arc start found g vertices → ((v : ℕ) → is_member v back ≡ (is_member v rest || is_member v found))
      → IsFreeWalk n arc start goal live vertices × ((v : ℕ) → is_member v back ≡ is_member v live)
  look_hit at rest found before g vertices back k t put =
      let c = k.chain in
      let h = k.hit g refl in
      let w = t.walk in (
        record {
          walk = record {
            arcs = w.arcs;
            long = w.long;
            below = w.below;
            first = w.first;
            last = ap goal (eqb-true (get_or vertices w.arcs 0) g w.last) ∙ h.1;
            steps = w.steps;
          };
          differ = t.differ;
          inside = λ v m. c.inside v (t.inside v m);
        },
        λ v. put v ∙ all (is_member v rest) (is_member v live) (is_member v found) (c.rest_is v) (c.inside v),
      )
    where
      all : (r l f : Bool) → r ≡ (l && not f) → (f ≡ true → l ≡ true) → (r || f) ≡ l
      all r l f e i = grind arith

-- ---- the trace back

-- the walk so far, from `at` on, goes up one step at a time
pub record IsBack (n : ℕ) (arc : ℕ → ℕ → Bool) (start : ℕ → Bool) (found : List ℕ) (depth : ℕ → ℕ) (last at : ℕ) (vertices : List ℕ) : Type 0 where
  pub some : 0 < length vertices
  pub first : get_or vertices 0 0 ≡ at
  pub end : (i : ℕ) → suc i ≡ length vertices → get_or vertices i 0 ≡ last
  pub inside : (i : ℕ) → i < length vertices → is_member (get_or vertices i 0) found ≡ true
  pub steps : (i : ℕ) → suc i < length vertices → arc (get_or vertices i 0) (get_or vertices (suc i) 0) ≡ true
  pub rises : (i : ℕ) → i < length vertices → depth (get_or vertices i 0) ≡ depth at + i

pub IsBack-one : (n : ℕ) (arc : ℕ → ℕ → Bool) (start : ℕ → Bool) (found : List ℕ) (depth : ℕ → ℕ) (last : ℕ) → is_member last found ≡ true
    → IsBack n arc start found depth last last (last ∷ [])
IsBack-one n arc start found depth last m = record {
  some = omega arith;
  first = refl;
  end = λ i e. (let z : i ≡ 0 = omega arith in ap (λ j. get_or (last ∷ []) j 0) z);
  inside = λ i l. (let z : i ≡ 0 = omega arith in ap (λ j. is_member (get_or (last ∷ []) j 0) found) z ∙ m);
  steps = λ i l. absurd (omega arith);
  rises = λ i l. (let z : i ≡ 0 = omega arith in ap (λ j. depth (get_or (last ∷ []) j 0)) z ∙ (let e : depth last ≡ depth last + i = omega arith in e));
}

pub IsBack-more : (n : ℕ) (arc : ℕ → ℕ → Bool) (start : ℕ → Bool) (found : List ℕ) (depth : ℕ → ℕ) (last at u : ℕ) (vertices : List ℕ)
    → IsBack n arc start found depth last at vertices → is_member u found ≡ true → arc u at ≡ true → depth at ≡ suc (depth u)
    → IsBack n arc start found depth last u (u ∷ vertices)
IsBack-more n arc start found depth last at u vertices b m a d = record {
  some = omega arith;
  first = refl;
  end = ends;
  inside = insides;
  steps = stepping;
  rises = rising;
}
  where
    ends : (i : ℕ) → suc i ≡ suc (length vertices) → get_or (u ∷ vertices) i 0 ≡ last
    ends zero e = (let s = b.some in absurd (omega arith))
    ends (suc i) e = b.end i (omega arith)

    insides : (i : ℕ) → i < suc (length vertices) → is_member (get_or (u ∷ vertices) i 0) found ≡ true
    insides zero l = m
    insides (suc i) l = b.inside i (omega arith)

    stepping : (i : ℕ) → suc i < suc (length vertices) → arc (get_or (u ∷ vertices) i 0) (get_or (u ∷ vertices) (suc i) 0) ≡ true
    stepping zero l = ap (arc u) b.first ∙ a
    stepping (suc i) l = b.steps i (omega arith)

    rising : (i : ℕ) → i < suc (length vertices) → depth (get_or (u ∷ vertices) i 0) ≡ depth u + i
    rising zero l = omega arith
    rising (suc i) l = (let r = b.rises i (omega arith) in omega arith)

pub back_traced : (n : ℕ) (arc : ℕ → ℕ → Bool) (start : ℕ → Bool) (live rest found before : List ℕ) (last at : ℕ) (vertices : List ℕ)
    → (c : IsChain n arc start live rest found before) → IsBack n arc start found c.depth last at vertices → start at ≡ true
    → IsTraced n arc start found last vertices
back_traced n arc start live rest found before last at vertices c b s = record {
  walk = record {
    arcs = length vertices - 1;
    long = (let l = b.some in omega arith);
    below = λ i l. c.below (get_or vertices i 0) (c.inside (get_or vertices i 0) (b.inside i l));
    first = ap start b.first ∙ s;
    last = eq-eqb (get_or vertices (length vertices - 1) 0) last (b.end (length vertices - 1) (let l = b.some in omega arith));
    steps = b.steps;
  };
  differ = λ i j l m e. (let x = b.rises i (omega arith) in let y = b.rises j m in let z = ap c.depth e in omega arith);
  inside = λ v m. (let p = place_of_member v vertices m in ap (λ x. is_member x found) (sym p.2) ∙ b.inside p.0 p.1);
}

-- the walk so far is no longer than there are vertices
pub back_few : (n : ℕ) (arc : ℕ → ℕ → Bool) (start : ℕ → Bool) (live rest found before : List ℕ) (last at : ℕ) (vertices : List ℕ)
    → (c : IsChain n arc start live rest found before) → IsBack n arc start found c.depth last at vertices → length vertices ≤ n
back_few n arc start live rest found before last at vertices c b =
    length-distinct_below n vertices
    (AreDistinct-index vertices (λ i j l m e. (let x = b.rises i (omega arith) in let y = b.rises j m in let z = ap c.depth e in omega arith)))
    (AllBelow-from_members n vertices (λ v m. let p = place_of_member v vertices m in
    c.below v (c.inside v (ap (λ x. is_member x found) (sym p.2) ∙ b.inside p.0 p.1))))

module _ (n : ℕ) (arc : ℕ → ℕ → Bool) (start : ℕ → Bool) (live rest found before : List ℕ) (last at : ℕ) (vertices : List ℕ)
    (c : IsChain n arc start live rest found before) (b : IsBack n arc start found c.depth last at vertices) where
  at_found : is_member at found ≡ true
  at_found = ap (λ x. is_member x found) (sym b.first) ∙ b.inside 0 b.some

  pub at_inside : at < length before
  at_inside = (let l = c.below at (c.inside at at_found) in let m = c.long in omega arith)

  pub back_on : get_or before at 0 < length before → IsBack n arc start found c.depth last (get_or before at 0) (get_or before at 0 ∷ vertices)
  back_on l = elim (c.comes at at_found) [
    | inl a ↦ (let s = a.0 in let m = c.long in absurd (omega arith))
    | inr a ↦ IsBack-more n arc start found c.depth last at (get_or before at 0) vertices b a.0 a.1 a.2
  ]

  pub back_done : (get_or before at 0 < length before → ⊥) → IsTraced n arc start found last vertices
  back_done past = elim (c.comes at at_found) [
    | inl a ↦ back_traced n arc start live rest found before last at vertices c b a.1
    | inr a ↦ (let l = c.below (get_or before at 0) (c.inside (get_or before at 0) a.0) in let m = c.long in absurd (past (omega arith)))
  ]

-- ---- searches one after the other

module _ (n : ℕ) (arc : ℕ → ℕ → Bool) (goal : ℕ → Bool) (live : List ℕ) where
  pub IsShut-all : live ≡ all_below n → IsShut n arc goal live
  IsShut-all all =
      let inside : (v : ℕ) → v < n → is_member v live ≡ true = λ v l. ap (is_member v) all ∙ is_member-all_below v n ∙ lt-ltb v n l in
      record {
        missed = λ v l o. absurd (both_ways _ o (inside v l));
        closed = λ u v l o m a. absurd (both_ways _ o (inside u l));
      }

  -- after a search in vain
  pub IsShut-spent : (start : ℕ → Bool) (rest : List ℕ) → IsShut n arc goal live → IsSpent n arc start goal live rest → IsShut n arc goal rest
  IsShut-spent start rest s e = record {
    missed = λ v l o. elim (cases_Bool (is_member v live)) [ inl m ↦ e.missed v m o | inr out ↦ s.missed v l out ];
    closed = λ u v l o m a. elim (cases_Bool (is_member u live)) [
      | inl on ↦ e.closed u v on o a
      | inr out ↦ false_from_ne_true (is_member v rest) (λ back. both_ways _ (s.closed u v l out m a) (e.fewer v back))
    ];
  }

  -- where neither the arcs from outside nor the goals there change
  pub IsShut-moved : (new : ℕ → ℕ → Bool) (now : ℕ → Bool) (back : List ℕ) → IsShut n arc goal live
      → ((u : ℕ) → is_member u live ≡ false → (now u ≡ goal u) × ((v : ℕ) → new u v ≡ arc u v))
      → ((v : ℕ) → is_member v back ≡ is_member v live) → IsShut n new now back
  IsShut-moved new now back s same b = record {
    missed = λ v l o. (let out = sym (b v) ∙ o in (same v out).0 ∙ s.missed v l out);
    closed = λ u v l o m a. (let out = sym (b u) ∙ o in b v ∙ s.closed u v l out m (sym ((same u out).1 v) ∙ a));
  }

  -- what starts outside reaches no goal
  pub shut_misses : (start : ℕ → Bool) (reached : List ℕ) → IsShut n arc goal live
      → ((v : ℕ) → v < n → start v ≡ true → is_member v live ≡ false) → IsReachedSet n arc start reached
      → (v : ℕ) → is_member v reached ≡ true → goal v ≡ false
  shut_misses start reached s outside r v m =
      s.missed v (below_member r.set m) (not-true (is_member v live) (reached_by_induction reached (λ u. not (is_member u live)) r
      (λ u l t. ap not (outside u l t))
      (λ u w on l o a. ap not (s.closed u w (below_member r.set on) (not-true (is_member u live) o) l a)) v m))

-- after a search in vain among all vertices, those that are found are the reached ones
pub spent_reaches : (n : ℕ) (arc : ℕ → ℕ → Bool) (start goal : ℕ → Bool) (live rest reached : List ℕ) → live ≡ all_below n
    → IsSpent n arc start goal live rest → IsReachedSet n arc start reached
    → (v : ℕ) → is_member v reached ≡ (is_member v live && not (is_member v rest))
spent_reaches n arc start goal live rest reached all e r v =
    same_truth (is_member v reached) (is_member v live && not (is_member v rest))
    (λ m. and_from (is_member v live) (not (is_member v rest)) (inside v (below_member r.set m))
    (reached_by_induction reached (λ u. not (is_member u rest)) r (λ u l s. ap not (e.starts u s))
    (λ u w on l o a. ap not (e.closed u w (inside u (below_member r.set on)) (not-true (is_member u rest) o) a)) v m))
    (λ m. let p = and_parts (is_member v live) (not (is_member v rest)) m in
    e.reached (λ u. is_member u reached) (λ u l s. r.starts u l s) (λ u w l on a. r.closed u w on l a) v p.0 (not-true (is_member v rest) p.1))
  where
    inside : (v : ℕ) → v < n → is_member v live ≡ true
    inside v l = ap (is_member v) all ∙ is_member-all_below v n ∙ lt-ltb v n l

pub bits_reach : (n : ℕ) (arc : ℕ → ℕ → Bool) (start goal : ℕ → Bool) (live rest found bits : List ℕ) → live ≡ all_below n
    → IsSpent n arc start goal live rest → ((v : ℕ) → is_member v found ≡ (is_member v live && not (is_member v rest)))
    → ((v : ℕ) → is_member v bits ≡ is_member v found) → IsRising bits
    → IsReachedSet n arc start bits × ((v : ℕ) → is_member v bits ≡ true → goal v ≡ false)
bits_reach n arc start goal live rest found bits all e f b rises =
    let r = reached_set_exists n arc start in
    let same : bits ≡ r.0 = same_members bits r.0 rises r.1.set.rising
    (λ v. b v ∙ f v ∙ sym (spent_reaches n arc start goal live rest r.0 all e r.1 v)) in (
      subst (IsReachedSet n arc start) (sym same) r.1,
      λ v m. (let p = and_parts (is_member v live) (not (is_member v rest)) (sym (b v ∙ f v) ∙ m) in e.missed v p.0 (not-true (is_member v rest) p.1)),
    )

-- ---- the vertices that come back

pub put_more : (x : ℕ) (old live new vertices : List ℕ) (i : ℕ) → i < length vertices → new ≡ with_one live (get_or vertices i 0)
    → is_member x live ≡ (is_member x old || is_member x (take i vertices))
    → is_member x new ≡ (is_member x old || is_member x (take (i + 1) vertices))
put_more x old live new vertices i l is so_far =
    ap (is_member x) is ∙ is_member-with_one x (get_or vertices i 0) live
    ∙ turned (eqb x (get_or vertices i 0)) (is_member x live) (is_member x old) (is_member x (take i vertices)) so_far
    ∙ ap (λ b. is_member x old || b) (sym (is_member-take_more vertices i x l))
  where
    turned : (e l o t : Bool) → l ≡ (o || t) → (e || l) ≡ (o || (t || e))
    turned e l o t h = grind arith

-- the last one that is found
-- ---- what the tests of the loop say

pub none_is : (end : Option ℕ) (b : Bool) → is_some end ≡ not b → b ≡ true → end ≡ None
none_is None b e t = refl
none_is (Some g) b e t = absurd (both_ways b (turned b e) t)
  where
    turned : (b : Bool) → true ≡ not b → b ≡ false
    turned b e = grind arith

pub not_none : (end : Option ℕ) (b : Bool) → is_some end ≡ not b → b ≡ false → end ≡ None → ⊥
not_none None b e f n = false≢true (e ∙ ap not f)
not_none (Some g) b e f n = none-some g (sym n)

pub index_is : (xs : List ℕ) (i x : ℕ) → i < length xs → x ≡ get_or xs i x → x ≡ get_or xs i 0
index_is xs i x l e = e ∙ get_or_default xs i x 0 l
