-- The search for a shortest walk by levels, where unreached vertices are kept as a set: what is not reached after k rounds has
-- the level k + 1, so a round finds the next levels. The vertices before lead down one level at a time.
use Rattle.mat_sets.proofs.Common.{Bool, List, [], ap, arith, cond, eqb, false, get_or, inl, inr, leb, length, ltb, not, refl, replicate, subst, suc, sym, true, zero, ℕ, ◌&&◌, ◌+◌, ◌-◌, ◌<◌, ◌∙◌, ◌∷◌, ◌≡◌, ◌≤◌, ◌⊎◌, and_from, and_parts, both_ways, cases_Bool, cases_lt, cond-true, eq-eqb, eqb-true}
use Rattle.mat_sets.proofs.Common.{false_from_ne_true, false≢true, le-leb, le-ltb, lt-leb, lt-ltb, ltb-true, ne_eqb, or_cases, or_left, or_right, nat_tests, get_or-replicate, length-replicate, IsRound, IsTrace, is_next, those_below, all_below, is_member, IsReachedSet, IsShortestWalk}
use Rattle.mat_sets.proofs.DisjointSets.{no_member}
use Rattle.mat_sets.proofs.Ground.{is_member-all_below}
use Rattle.mat_sets.proofs.Levels.{AreLevels, first_levels, follows, follows_level, missed_goals, next_level, next_level_is, next_levels, shortest_by}
use Rattle.mat_sets.proofs.Members.{is_member-head}
use Rattle.mat_sets.proofs.Search.{length-those_below_less, length-those_below_most, some_below_gives, those_below-same}

-- how many vertices are not reached
abbrev pub count_unreached : ℕ → List ℕ → ℕ
count_unreached n unreached = length (those_below n (λ v. is_member v unreached))

-- after k rounds: the level of each vertex, the vertices of level k, and for each of a level above 0 one of the level below with an arc
pub record IsSearched (n : ℕ) (arc : ℕ → ℕ → Bool) (start goal : ℕ → Bool) (k : ℕ) (unreached frontier before : List ℕ) : Type 0 where
  pub level : ℕ → ℕ
  pub levels : AreLevels n arc start goal k level
  pub outside : (v : ℕ) → is_member v unreached ≡ (ltb v n && not (leb (level v) k))
  pub front : (v : ℕ) → is_member v frontier ≡ (ltb v n && eqb (level v) k)
  pub before_below : (v : ℕ) → v < n → get_or before v 0 < n
  pub before_level : (v j : ℕ) → v < n → level v ≡ suc j → j < k → level (get_or before v 0) ≡ j
  pub before_arc : (v j : ℕ) → v < n → level v ≡ suc j → j < k → arc (get_or before v 0) v ≡ true
  pub long : length before ≡ n
  pub fuel : k + count_unreached n unreached ≤ n

-- ---- the first level

module _ (n : ℕ) (arc : ℕ → ℕ → Bool) (start goal : ℕ → Bool) where
  pub search_start : (unreached frontier before : List ℕ) → before ≡ replicate n 0
      → ((v : ℕ) → is_member v frontier ≡ (ltb v n && start v))
      → ((v : ℕ) → is_member v unreached ≡ (is_member v (all_below n) && not (ltb v n && start v)))
      → IsSearched n arc start goal 0 unreached frontier before
  search_start unreached frontier before zeros f u = record {
    level = λ v. cond (start v) 0 1;
    levels = first_levels;
    outside = λ v. u v ∙ outside_is (is_member v (all_below n)) (ltb v n) (start v) (is_member-all_below v n);
    front = λ v. f v ∙ front_is (ltb v n) (start v);
    before_below = λ v l. (let e : get_or before v 0 ≡ 0 = rw zeros (get_or-replicate n v 0 0 l) in omega arith);
    before_level = λ v j l e h. absurd (omega arith);
    before_arc = λ v j l e h. absurd (omega arith);
    long = rw zeros (length-replicate n 0);
    fuel = omega (arith, length-those_below_most n (λ v. is_member v unreached));
  }
    where
      outside_is : (m b s : Bool) → m ≡ b → (m && not (b && s)) ≡ (b && not (leb (cond s 0 1) 0))
      outside_is m true true e = rw e
      outside_is m true false e = rw e
      outside_is m false s e = rw e

      front_is : (b s : Bool) → (b && s) ≡ (b && eqb (cond s 0 1) 0)
      front_is b true = refl
      front_is b false = refl

-- ---- a round

is_next_gives : (arc : ℕ → ℕ → Bool) (us : List ℕ) (v : ℕ) → is_next arc us v ≡ true
    → (u : ℕ) × (is_member u us ≡ true) × (arc u v ≡ true)
is_next_gives arc [] v h = absurd (false≢true h)
is_next_gives arc (u ∷ us) v h = elim (or_cases (arc u v) (is_next arc us v) h) [
  | inl a ↦ (u, is_member-head u us, a)
  | inr b ↦ (let w = is_next_gives arc us v b in (w.0, or_right (eqb w.0 u) (is_member w.0 us) w.1, w.2))
]

is_next_from : (arc : ℕ → ℕ → Bool) (us : List ℕ) (u v : ℕ) → is_member u us ≡ true → arc u v ≡ true → is_next arc us v ≡ true
is_next_from arc [] u v m a = absurd (false≢true m)
is_next_from arc (w ∷ us) u v m a = elim (or_cases (eqb u w) (is_member u us) m) [
  | inl e ↦ or_left (arc w v) (is_next arc us v) (ap (λ z. arc z v) (sym (eqb-true u w e)) ∙ a)
  | inr b ↦ or_right (arc w v) (is_next arc us v) (is_next_from arc us u v b a)
]

-- arcs from the frontier are arcs from level k
frontier_follows : (n : ℕ) (arc : ℕ → ℕ → Bool) (k : ℕ) (level : ℕ → ℕ) (frontier : List ℕ) (v : ℕ)
    → ((u : ℕ) → is_member u frontier ≡ (ltb u n && eqb (level u) k)) → is_next arc frontier v ≡ follows_level n arc k level v
frontier_follows n arc k level frontier v f = elim (cases_Bool (is_next arc frontier v)) [
  | inl a ↦ (let w = is_next_gives arc frontier v a in
      let p = and_parts (ltb w.0 n) (eqb (level w.0) k) (sym (f w.0) ∙ w.1) in
      a ∙ sym (follows n arc k level w.0 v (ltb-true w.0 n p.0) (eqb-true (level w.0) k p.1) w.2))
  | inr a ↦ a ∙ sym (false_from_ne_true _ (λ t. (let w = some_below_gives n (λ u. eqb (level u) k && arc u v) t in
      let p = and_parts (eqb (level w.0) k) (arc w.0 v) w.2 in
      both_ways _ a (is_next_from arc frontier w.0 v (f w.0 ∙ and_from (ltb w.0 n) (eqb (level w.0) k) (lt-ltb w.0 n w.1) p.0) p.1))))
]

-- the next level of an unreached vertex: it is found, or stays unreached
stays_out : (l next k : ℕ) (f : Bool)
    → ((l ≤ k) × (next ≡ l)) ⊎ (((l ≡ suc k) × (f ≡ true) × (next ≡ suc k)) ⊎ ((l ≡ suc k) × (f ≡ false) × (next ≡ suc (suc k))))
    → (not (leb l k) && not f) ≡ not (leb next (suc k))
stays_out l next k f (inl c) = (let a = c.0 in let b = c.1 in grind (arith, nat_tests))
stays_out l next k f (inr (inl c)) = (let a = c.0 in let b = c.1 in let d = c.2 in grind (arith, nat_tests))
stays_out l next k f (inr (inr c)) = (let a = c.0 in let b = c.1 in let d = c.2 in grind (arith, nat_tests))

is_found : (l next k : ℕ) (f : Bool)
    → ((l ≤ k) × (next ≡ l)) ⊎ (((l ≡ suc k) × (f ≡ true) × (next ≡ suc k)) ⊎ ((l ≡ suc k) × (f ≡ false) × (next ≡ suc (suc k))))
    → (not (leb l k) && f) ≡ eqb next (suc k)
is_found l next k f (inl c) = (let a = c.0 in let b = c.1 in grind (arith, nat_tests))
is_found l next k f (inr (inl c)) = (let a = c.0 in let b = c.1 in let d = c.2 in grind (arith, nat_tests))
is_found l next k f (inr (inr c)) = (let a = c.0 in let b = c.1 in let d = c.2 in grind (arith, nat_tests))

module _ {n : ℕ} {arc : ℕ → ℕ → Bool} {start goal : ℕ → Bool} (k : ℕ) (unreached frontier before rest found after : List ℕ) where
  abbrev next : IsSearched n arc start goal k unreached frontier before → ℕ → ℕ
  next s = next_level n arc k s.level

  no_goal : (s : IsSearched n arc start goal k unreached frontier before) → ((v : ℕ) → is_member v frontier ≡ true → goal v ≡ false)
      → (v : ℕ) → v < n → goal v ≡ true → s.level v ≡ k → ⊥
  no_goal s none v l g e = both_ways _ (none v (s.front v ∙ and_from (ltb v n) (eqb (s.level v) k) (lt-ltb v n l) (eq-eqb (s.level v) k e))) g

  kept_level : (s : IsSearched n arc start goal k unreached frontier before) (v : ℕ) → s.level v ≤ k → next s v ≡ s.level v
  kept_level s v l = cond-true (leb (s.level v) k) (s.level v) _ (le-leb (s.level v) k l)

  -- which vertices are unreached and found after the round
  next_outside : (s : IsSearched n arc start goal k unreached frontier before) → IsRound arc frontier unreached before rest found after
      → (v : ℕ) → is_member v rest ≡ (ltb v n && not (leb (next s v) (suc k)))
  next_outside s r v = r.rest_is v ∙ rw (s.outside v, frontier_follows n arc k s.level frontier v s.front) (elim (cases_lt v n) [
    | inl l ↦ rw (lt-ltb v n l) (stays_out (s.level v) (next s v) k _ (next_level_is n arc k s.level v (s.levels.most v l)))
    | inr h ↦ rw (le-ltb v n h)
  ])

  next_front : (s : IsSearched n arc start goal k unreached frontier before) → IsRound arc frontier unreached before rest found after
      → (v : ℕ) → is_member v found ≡ (ltb v n && eqb (next s v) (suc k))
  next_front s r v = r.found_is v ∙ rw (s.outside v, frontier_follows n arc k s.level frontier v s.front) (elim (cases_lt v n) [
    | inl l ↦ rw (lt-ltb v n l) (is_found (s.level v) (next s v) k _ (next_level_is n arc k s.level v (s.levels.most v l)))
    | inr h ↦ rw (le-ltb v n h)
  ])

  -- a found vertex has one of level k before it
  found_before : (s : IsSearched n arc start goal k unreached frontier before) → IsRound arc frontier unreached before rest found after
      → (v : ℕ) → is_member v found ≡ true → (get_or after v 0 < n) × (s.level (get_or after v 0) ≡ k)
  found_before s r v m =
      let p = and_parts (ltb (get_or after v 0) n) (eqb (s.level (get_or after v 0)) k) (sym (s.front (get_or after v 0)) ∙ r.member v m) in
      (ltb-true (get_or after v 0) n p.0, eqb-true (s.level (get_or after v 0)) k p.1)

  -- a vertex of level j + 1 with j < k + 1 is found, and then j is k, or it had this level before
  old_or_found : (s : IsSearched n arc start goal k unreached frontier before) → IsRound arc frontier unreached before rest found after
      → (v j : ℕ) → v < n → next s v ≡ suc j → j < suc k
      → ((is_member v found ≡ true) × (j ≡ k)) ⊎ ((is_member v found ≡ false) × (s.level v ≡ suc j) × (j < k))
  old_or_found s r v j l e h = elim (next_level_is n arc k s.level v (s.levels.most v l)) [
    | inl c ↦ (let a = c.0 in let b = c.1 in
        inr (next_front s r v ∙ rw (lt-ltb v n l, ne_eqb (next s v) (suc k) (omega arith)), omega arith, omega arith))
    | inr (inl c) ↦ (let b = c.2 in inl (next_front s r v ∙ rw (lt-ltb v n l) (eq-eqb (next s v) (suc k) b), omega arith))
    | inr (inr c) ↦ (let b = c.2 in absurd (omega arith))
  ]

  pub fewer_unreached : (s : IsSearched n arc start goal k unreached frontier before) → IsRound arc frontier unreached before rest found after
      → (x : ℕ) → is_member x found ≡ true → count_unreached n rest < count_unreached n unreached
  fewer_unreached s r x m =
      let p = and_parts (is_member x unreached) (is_next arc frontier x) (sym (r.found_is x) ∙ m) in
      let q = and_parts (ltb x n) (not (leb (s.level x) k)) (sym (s.outside x) ∙ p.0) in
      length-those_below_less n x (λ v. is_member v rest) (λ v. is_member v unreached)
      (λ v l h. (and_parts (is_member v unreached) (not (is_next arc frontier v)) (sym (r.rest_is v) ∙ h)).0)
      (ltb-true x n q.0) (r.rest_is x ∙ rw (p.0, p.1)) p.0

  next_search : (s : IsSearched n arc start goal k unreached frontier before) → ((v : ℕ) → is_member v frontier ≡ true → goal v ≡ false)
      → IsRound arc frontier unreached before rest found after → (x : ℕ) → is_member x found ≡ true
      → IsSearched n arc start goal (suc k) rest found after
  next_search s none r x m = record {
    level = next s;
    levels = next_levels k s.level s.levels (no_goal s none);
    outside = next_outside s r;
    front = next_front s r;
    before_below = λ v l. elim (cases_Bool (is_member v found)) [
      | inl f ↦ (found_before s r v f).0
      | inr f ↦ rw (r.kept v f) (s.before_below v l)
    ];
    before_level = λ v j l e h. elim (old_or_found s r v j l e h) [
      | inl f ↦ (let b = found_before s r v f.0 in kept_level s (get_or after v 0) (omega (arith, b.1)) ∙ b.1 ∙ sym f.1)
      | inr f ↦ rw (r.kept v f.0) (let b = s.before_level v j l f.1 f.2 in kept_level s (get_or before v 0) (omega (arith, b, f.2)) ∙ b)
    ];
    before_arc = λ v j l e h. elim (old_or_found s r v j l e h) [
      | inl f ↦ r.arc_from v f.0
      | inr f ↦ rw (r.kept v f.0) (s.before_arc v j l f.1 f.2)
    ];
    long = r.long ∙ s.long;
    fuel = (let a = fewer_unreached s r x m in let b = s.fuel in omega arith);
  }

  pub search_round : IsSearched n arc start goal k unreached frontier before → ((v : ℕ) → is_member v frontier ≡ true → goal v ≡ false)
      → IsRound arc frontier unreached before rest found after → (x : ℕ) → is_member x found ≡ true
      → IsSearched n arc start goal (k + 1) rest found after
  search_round s none r x m = let e : suc k ≡ k + 1 = omega arith in subst (λ j. IsSearched n arc start goal j rest found after) e
      (next_search s none r x m)

-- ---- the end of the search

pub some_member : (xs : List ℕ) → (length xs ≡ 0 → ⊥) → (x : ℕ) × (is_member x xs ≡ true)
some_member [] h = absurd (h refl)
some_member (x ∷ xs) h = (x, is_member-head x xs)

-- where nothing is found, all that is not unreached is the reached set
pub search_end : {n : ℕ} {arc : ℕ → ℕ → Bool} {start goal : ℕ → Bool} (k : ℕ) (unreached frontier before rest found after : List ℕ)
    → IsSearched n arc start goal k unreached frontier before → ((v : ℕ) → is_member v frontier ≡ true → goal v ≡ false)
    → IsRound arc frontier unreached before rest found after → length found ≡ 0
    → IsReachedSet n arc start (those_below n (λ v. not (is_member v rest)))
    × ((v : ℕ) → is_member v (those_below n (λ v. not (is_member v rest))) ≡ true → goal v ≡ false)
search_end {n} {arc} {start} {goal} k unreached frontier before rest found after s none r empty =
    let m = missed_goals k s.level s.levels (no_goal k unreached frontier before rest found after s none) only in
    rw (those_below-same n (λ v. not (is_member v rest)) (λ v. leb (s.level v) k) same) (m.reach, m.misses)
  where
    nothing : (v : ℕ) → v < n → (not (leb (s.level v) k) && is_next arc frontier v) ≡ false
    nothing v l = let e = sym (r.found_is v) ∙ no_member found v empty in rw (s.outside v, lt-ltb v n l) at e

    only : (v : ℕ) → v < n → follows_level n arc k s.level v ≡ true → s.level v ≤ k
    only v l f = elim (cases_lt k (s.level v)) [
      | inl more ↦ absurd (both_ways _ (nothing v l) (and_from (not (leb (s.level v) k)) (is_next arc frontier v)
          (ap not (lt-leb (s.level v) k more)) (frontier_follows n arc k s.level frontier v s.front ∙ f)))
      | inr le ↦ le
    ]

    same : (v : ℕ) → v < n → not (is_member v rest) ≡ leb (s.level v) k
    same v l = rw (r.rest_is v, s.outside v, lt-ltb v n l) (stays (leb (s.level v) k) (is_next arc frontier v) (nothing v l))
      where
        stays : (b c : Bool) → (not b && c) ≡ false → not (not b && not c) ≡ b
        stays b c e = grind arith

-- the trace back from a goal of level k is a walk, along levels 0, 1, and so on
pub search_found : {n : ℕ} {arc : ℕ → ℕ → Bool} {start goal : ℕ → Bool} (k : ℕ) (unreached frontier before : List ℕ) (v : ℕ) (vertices : List ℕ)
    → IsSearched n arc start goal k unreached frontier before → is_member v frontier ≡ true → goal v ≡ true
    → IsTrace before k v vertices → IsShortestWalk n arc start goal vertices
search_found {n} {arc} {start} {goal} k unreached frontier before v vertices s m g t =
    let long = t.long in
    shortest_by s.level vertices s.levels.potential (record {
      arcs = k;
      long = t.long;
      below = λ i h. (place i (omega arith)).0;
      first = s.levels.roots (get_or vertices 0 0) (place 0 (omega arith)).0 (place 0 (omega arith)).1;
      last = ap goal t.ends ∙ g;
      steps = λ i h. (let q = place (suc i) (omega arith) in ap (λ z. arc z (get_or vertices (suc i) 0)) (t.steps i (omega arith))
          ∙ s.before_arc (get_or vertices (suc i) 0) i q.0 q.1 (omega arith));
    }) s.levels.early
  where
    down : (d i : ℕ) → i + d ≡ k → (get_or vertices i 0 < n) × (s.level (get_or vertices i 0) ≡ i)
    down zero i e =
        let p = and_parts (ltb v n) (eqb (s.level v) k) (sym (s.front v) ∙ m) in
        let same : i ≡ k = omega arith in
        rw (same, t.ends) (ltb-true v n p.0, eqb-true (s.level v) k p.1)
    down (suc d) i e =
        let q = down d (suc i) (omega arith) in
        rw (t.steps i (omega arith)) (
          s.before_below (get_or vertices (suc i) 0) q.0,
          s.before_level (get_or vertices (suc i) 0) i q.0 q.1
              (omega arith),
        )

    place : (i : ℕ) → i ≤ k → (get_or vertices i 0 < n) × (s.level (get_or vertices i 0) ≡ i)
    place i h = down (k - i) i (omega arith)
