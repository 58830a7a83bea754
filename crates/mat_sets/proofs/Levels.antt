-- The search for a walk with fewest vertices. Each vertex gets a level, the number of arcs of a shortest walk from a start.
-- Levels rise by at most one along an arc, so a walk to a goal whose level is its number of arcs is shortest, and its
-- vertices have the levels 0, 1, and so on. The levels are found one after the other, until a goal or nothing new is found.
use Rattle.mat_sets.proofs.Common.{Bool, List, [], ap, arith, cond, eqb, false, get_or, inl, inr, leb, length, not, refl, subst, suc, sym, true, zero, ℕ, ◌&&◌, ◌+◌, ◌<◌, ◌∙◌, ◌∷◌, ◌≡◌, ◌≤◌, ◌⊎◌, and_from, and_parts, both_ways, cases_Bool, cases_eq, cases_lt, cond-false, cond-true, eq-eqb, eqb-true}
use Rattle.mat_sets.proofs.Common.{false_from_ne_true, le-leb, leb-false, lt-leb, not-true, nat_tests, some_below, those_below, is_member, IsChordless, IsReachedSet, IsShortestWalk, IsWalk}
use Rattle.mat_sets.proofs.Search.{IsSet-those_below, is_member-those_below, length-those_below_less, some_below_from, some_below_gives}

-- the list of f 0, f 1, ..
abbrev pub listed : (ℕ → ℕ) → ℕ → List ℕ
listed f zero = []
listed f (suc m) = f 0 ∷ listed (λ i. f (suc i)) m

pub length-listed : (f : ℕ → ℕ) (m : ℕ) → length (listed f m) ≡ m
length-listed f zero = refl
length-listed f (suc m) = ap suc (length-listed (λ i. f (suc i)) m)

pub listed_at : (f : ℕ → ℕ) (m i : ℕ) → i < m → get_or (listed f m) i 0 ≡ f i
listed_at f zero i h = absurd (omega arith)
listed_at f (suc m) zero h = refl
listed_at f (suc m) (suc i) h = listed_at (λ j. f (suc j)) m i (omega arith)

-- a number for each vertex: 0 at the starts, and one more at most along an arc
pub record IsPotential (n : ℕ) (arc : ℕ → ℕ → Bool) (start : ℕ → Bool) (level : ℕ → ℕ) : Type 0 where
  pub starts : (v : ℕ) → v < n → start v ≡ true → level v ≡ 0
  pub rises : (u v : ℕ) → u < n → v < n → arc u v ≡ true → level v ≤ suc (level u)

module _ {n : ℕ} {arc : ℕ → ℕ → Bool} {start goal : ℕ → Bool} where
  -- along a walk the level rises by at most one at each arc
  between : (level : ℕ → ℕ) (vertices : List ℕ) → IsPotential n arc start level → IsWalk n arc start goal vertices
      → (i j : ℕ) → i ≤ j → j < length vertices → level (get_or vertices j 0) + i ≤ level (get_or vertices i 0) + j
  between level vertices p w i zero le lt = let e : i ≡ 0 = omega arith in subst (λ k. level (get_or vertices 0 0) + k ≤ level (get_or vertices k 0) + 0) (sym e) (omega arith)
  between level vertices p w i (suc j) le lt = elim (cases_eq i (suc j)) [
    | inl e ↦ subst (λ k. level (get_or vertices (suc j) 0) + k ≤ level (get_or vertices k 0) + suc j) (sym e) (omega arith)
    | inr d ↦ (let ih = between level vertices p w i j (omega arith) (omega arith) in
        let a = p.rises (get_or vertices j 0) (get_or vertices (suc j) 0) (w.below j (omega arith)) (w.below (suc j) lt) (w.steps j lt) in
        omega arith)
  ]

  at_most : (level : ℕ → ℕ) (vertices : List ℕ) → IsPotential n arc start level → IsWalk n arc start goal vertices
      → (j : ℕ) → j < length vertices → level (get_or vertices j 0) ≤ j
  at_most level vertices p w j lt =
      let a = between level vertices p w 0 j (omega arith) lt in
      let b = p.starts (get_or vertices 0 0) (w.below 0 (omega arith)) w.first in
      omega arith

  -- no walk is shorter than one whose goal has the number of its arcs as its level
  pub shortest_by : (level : ℕ → ℕ) (vertices : List ℕ) → IsPotential n arc start level
      → (w : IsWalk n arc start goal vertices)
      → ((v : ℕ) → v < n → goal v ≡ true → w.arcs ≤ level v) → IsShortestWalk n arc start goal vertices
  shortest_by level vertices p w far = record {
    walk = w;
    fewest = λ others o.
        let l = o.long in
        let a = at_most level others p o o.arcs (omega arith) in
        let b = far (get_or others o.arcs 0) (o.below o.arcs (omega arith)) o.last in
        let c = w.long in
        omega arith;
  }

  -- on such a walk the vertex at place i has the level i
  level_is : (level : ℕ → ℕ) (vertices : List ℕ) → IsPotential n arc start level
      → (w : IsWalk n arc start goal vertices)
      → ((v : ℕ) → v < n → goal v ≡ true → w.arcs ≤ level v) → (i : ℕ) → i < length vertices → level (get_or vertices i 0) ≡ i
  level_is level vertices p w far i lt =
      let l = w.long in
      let a = at_most level vertices p w i lt in
      let b = between level vertices p w i w.arcs (omega arith) (omega arith) in
      let c = far (get_or vertices w.arcs 0) (w.below w.arcs (omega arith)) w.last in
      omega arith

  pub chordless_by : (level : ℕ → ℕ) (vertices : List ℕ) → IsPotential n arc start level
      → (w : IsWalk n arc start goal vertices)
      → ((v : ℕ) → v < n → goal v ≡ true → w.arcs ≤ level v) → IsChordless n arc start goal vertices
  chordless_by level vertices p w far =
      let l = w.long in
      let is = level_is level vertices p w far in
      record {
        differ = λ i j lt h e. (let a = is i (omega arith) in let b = is j h in let c : level (get_or vertices i 0) ≡ level (get_or vertices j 0) = ap level e in absurd (omega arith));
        start_once = λ i pos h. false_from_ne_true _ (λ s. (let a = is i h in let b = p.starts (get_or vertices i 0) (w.below i h) s in absurd (omega arith)));
        goal_once = λ i h. false_from_ne_true _ (λ s. (let a = is i (omega arith) in let b = far (get_or vertices i 0) (w.below i (omega arith)) s in absurd (omega arith)));
        no_chord = λ i j lt h. false_from_ne_true _ (λ s. (let a = is i (omega arith) in let b = is j h in
            let c = p.rises (get_or vertices i 0) (get_or vertices j 0) (w.below i (omega arith)) (w.below j h) s in absurd (omega arith)));
      }

-- the levels up to k: a vertex that no walk of at most k arcs leads to has the level k + 1
pub record AreLevels (n : ℕ) (arc : ℕ → ℕ → Bool) (start goal : ℕ → Bool) (k : ℕ) (level : ℕ → ℕ) : Type 0 where
  pub potential : IsPotential n arc start level
  pub roots : (v : ℕ) → v < n → level v ≡ 0 → start v ≡ true
  pub most : (v : ℕ) → v < n → level v ≤ suc k
  pub parents : (v j : ℕ) → v < n → level v ≡ suc j → j < k → (u : ℕ) × (u < n) × (level u ≡ j) × (arc u v ≡ true)
  pub early : (v : ℕ) → v < n → goal v ≡ true → k ≤ level v

-- a walk as a function of the index
record IsIndexedWalk (n : ℕ) (arc : ℕ → ℕ → Bool) (start : ℕ → Bool) (m : ℕ) (v : ℕ) (f : ℕ → ℕ) : Type 0 where
  first : start (f 0) ≡ true
  last : f m ≡ v
  below : (i : ℕ) → i < suc m → f i < n
  steps : (i : ℕ) → i < m → arc (f i) (f (suc i)) ≡ true

walk_from : {n : ℕ} {arc : ℕ → ℕ → Bool} {start : ℕ → Bool} (goal : ℕ → Bool) (m v : ℕ) (f : ℕ → ℕ)
    → IsIndexedWalk n arc start m v f → goal v ≡ true → IsWalk n arc start goal (listed f (suc m))
walk_from {n} {arc} {start} goal m v f t g =
    let l = length-listed f (suc m) in
    record {
      arcs = m;
      long = l;
      below = λ i h. subst (λ x. x < n) (sym (listed_at f (suc m) i (omega arith))) (t.below i (omega arith));
      first = t.first;
      last = ap goal (listed_at f (suc m) m (omega arith) ∙ t.last) ∙ g;
      steps = λ i h. ap (λ x. arc x (get_or (listed f (suc m)) (suc i) 0)) (listed_at f (suc m) i (omega arith)) ∙ ap (arc (f i)) (listed_at f (suc m) (suc i) (omega arith)) ∙ t.steps i (omega arith);
    }

indexed_walk_more : {n : ℕ} {arc : ℕ → ℕ → Bool} {start : ℕ → Bool} (m u v : ℕ) (f : ℕ → ℕ)
    → IsIndexedWalk n arc start m u f → v < n → arc u v ≡ true
    → IsIndexedWalk n arc start (suc m) v (λ i. cond (leb i m) (f i) v)
indexed_walk_more {n} {arc} {start} m u v f t lt a =
    let g : ℕ → ℕ = λ i. cond (leb i m) (f i) v in
    let old : (i : ℕ) → i ≤ m → g i ≡ f i = λ i h. cond-true (leb i m) (f i) v (le-leb i m h) in
    let new : g (suc m) ≡ v = cond-false (leb (suc m) m) (f (suc m)) v (lt-leb (suc m) m (omega arith)) in
    record {
      first = ap start (old 0 (omega arith)) ∙ t.first;
      last = new;
      below = λ i h. elim (cases_lt m i) [
        | inl more ↦ (let e : i ≡ suc m = omega arith in subst (λ x. x < n) (sym (ap g e ∙ new)) lt)
        | inr le ↦ subst (λ x. x < n) (sym (old i le)) (t.below i (omega arith))
      ];
      steps = λ i h. elim (cases_eq i m) [
        | inl e ↦ ap (λ x. arc x (g (suc i))) (old i (omega arith) ∙ ap f e ∙ t.last) ∙ ap (λ k. arc u (g (suc k))) e ∙ ap (arc u) new ∙ a
        | inr d ↦ ap (λ x. arc x (g (suc i))) (old i (omega arith)) ∙ ap (arc (f i)) (old (suc i) (omega arith)) ∙ t.steps i (omega arith)
      ];
    }

module _ {n : ℕ} {arc : ℕ → ℕ → Bool} {start goal : ℕ → Bool} where
  indexed_walk_to : (k : ℕ) (level : ℕ → ℕ) → AreLevels n arc start goal k level → (m v : ℕ) → v < n → level v ≡ m
      → m ≤ k → (f : ℕ → ℕ) × IsIndexedWalk n arc start m v f
  indexed_walk_to k level w zero v lt e le = (λ _. v, record { first = w.roots v lt e; last = refl; below = λ i h. lt; steps = λ i h. absurd (omega arith) })
  indexed_walk_to k level w (suc m) v lt e le =
      let q = w.parents v m lt e (omega arith) in
      let t = indexed_walk_to k level w m q.0 q.1 q.2 (omega arith) in
      (λ i. cond (leb i m) (t.0 i) v, indexed_walk_more m q.0 v t.0 t.1 lt q.3)

-- whether an arc leads to v from a vertex of level k
abbrev pub follows_level : (n : ℕ) (arc : ℕ → ℕ → Bool) → ℕ → (ℕ → ℕ) → ℕ → Bool
follows_level n arc k level v = some_below n (λ u. eqb (level u) k && arc u v)

-- the level of v, where levels up to k + 1 are told
abbrev pub next_level : (n : ℕ) (arc : ℕ → ℕ → Bool) → ℕ → (ℕ → ℕ) → ℕ → ℕ
next_level n arc k level v = cond (leb (level v) k) (level v) (cond (follows_level n arc k level v) (suc k) (suc (suc k)))

-- the three ways in which v gets its level
abbrev pub IsNextLevel : (n : ℕ) (arc : ℕ → ℕ → Bool) → ℕ → (ℕ → ℕ) → ℕ → Type 0
IsNextLevel n arc k level v = ((level v ≤ k) × (next_level n arc k level v ≡ level v)) ⊎ (((level v ≡ suc k) × (follows_level n arc k level v ≡ true) × (next_level n arc k level v ≡ suc k)) ⊎ ((level v ≡ suc k) × (follows_level n arc k level v ≡ false) × (next_level n arc k level v ≡ suc (suc k))))

-- how many vertices have a level above k
abbrev pub count_above : ℕ → ℕ → (ℕ → ℕ) → ℕ
count_above n k level = length (those_below n (λ v. not (leb (level v) k)))

-- a walk, and levels that show that none is shorter
pub record IsWalkWithLevels (n : ℕ) (arc : ℕ → ℕ → Bool) (start goal : ℕ → Bool) (vertices : List ℕ) : Type 0 where
  pub walk : IsWalk n arc start goal vertices
  pub level : ℕ → ℕ
  pub potential : IsPotential n arc start level
  pub far : (v : ℕ) → v < n → goal v ≡ true → walk.arcs ≤ level v

-- the reached set, without a goal
pub record MissesGoals (n : ℕ) (arc : ℕ → ℕ → Bool) (start goal : ℕ → Bool) (reached : List ℕ) : Type 0 where
  pub reach : IsReachedSet n arc start reached
  pub misses : (v : ℕ) → is_member v reached ≡ true → goal v ≡ false

-- what the search finds
abbrev Outcome : (n : ℕ) (arc : ℕ → ℕ → Bool) (start goal : ℕ → Bool) → Type 0
Outcome n arc start goal = ((vertices : List ℕ) × IsWalkWithLevels n arc start goal vertices) ⊎ ((reached : List ℕ) × MissesGoals n arc start goal reached)

pub follows : (n : ℕ) (arc : ℕ → ℕ → Bool) (k : ℕ) (level : ℕ → ℕ) (u v : ℕ) → u < n → level u ≡ k → arc u v ≡ true
    → follows_level n arc k level v ≡ true
follows n arc k level u v lt e a = some_below_from n u (λ z. eqb (level z) k && arc z v) lt (and_from (eqb (level u) k) (arc u v) (eq-eqb (level u) k e) a)

pub next_level_is : (n : ℕ) (arc : ℕ → ℕ → Bool) (k : ℕ) (level : ℕ → ℕ) (v : ℕ) → level v ≤ suc k
    → IsNextLevel n arc k level v
next_level_is n arc k level v m = elim (cases_lt k (level v)) [
  | inr le ↦ inl (le, cond-true (leb (level v) k) (level v) (cond (follows_level n arc k level v) (suc k) (suc (suc k))) (le-leb (level v) k le))
  | inl lt ↦ (let e = cond-false (leb (level v) k) (level v) (cond (follows_level n arc k level v) (suc k) (suc (suc k))) (lt-leb (level v) k lt) in
      elim (cases_Bool (follows_level n arc k level v)) [
        | inl a ↦ inr (inl (omega arith, a, e ∙ cond-true (follows_level n arc k level v) (suc k) (suc (suc k)) a))
        | inr a ↦ inr (inr (omega arith, a, e ∙ cond-false (follows_level n arc k level v) (suc k) (suc (suc k)) a))
      ])
]

module _ {n : ℕ} {arc : ℕ → ℕ → Bool} {start goal : ℕ → Bool} where
  -- a goal at level k is nearest
  found_goal : (k : ℕ) (level : ℕ → ℕ) (v : ℕ) → AreLevels n arc start goal k level → v < n → goal v ≡ true
      → level v ≡ k → (vertices : List ℕ) × IsWalkWithLevels n arc start goal vertices
  unfolding walk_from
  found_goal k level v w lt g e =
      let t = indexed_walk_to k level w k v lt e (omega arith) in
      let f = t.0 in
      (listed f (suc k), record { walk = walk_from goal k v f t.1 g; level = level; potential = w.potential; far = w.early })

  -- where no goal has level k, the levels up to k + 1 are found from those up to k
  pub next_levels : (k : ℕ) (level : ℕ → ℕ) → AreLevels n arc start goal k level
      → ((v : ℕ) → v < n → goal v ≡ true → level v ≡ k → ⊥)
      → AreLevels n arc start goal (suc k) (next_level n arc k level)
  next_levels k level w none =
      let p = w.potential in
      let is : (v : ℕ) → v < n → IsNextLevel n arc k level v = λ v lt. next_level_is n arc k level v (w.most v lt) in
      let kept : (v : ℕ) → level v ≤ k → next_level n arc k level v ≡ level v = λ v le. cond-true (leb (level v) k) (level v) _ (le-leb (level v) k le) in
      record {
        potential = record {
          starts = λ v lt s. (let e = p.starts v lt s in kept v (omega arith) ∙ e);
          rises = λ u v lu lv a. elim (is v lv) [
            | inl c ↦ elim (is u lu) [
              | inl d ↦ (let r = p.rises u v lu lv a in omega (arith, c.1, d.1))
              | inr d ↦ elim d [ inl d ↦ omega (arith, c.0, c.1, d.2) | inr d ↦ omega (arith, c.0, c.1, d.2) ]
            ]
            | inr c ↦ elim c [
              | inl c ↦ elim (is u lu) [
                | inl d ↦ (let r = p.rises u v lu lv a in omega (arith, c.0, c.2, d.1))
                | inr d ↦ elim d [ inl d ↦ omega (arith, c.2, d.2) | inr d ↦ omega (arith, c.2, d.2) ]
              ]
              | inr c ↦ elim (is u lu) [
                | inl d ↦ (let r = p.rises u v lu lv a in absurd (both_ways _ c.1 (follows n arc k level u v lu (omega (arith, c.0, d.0)) a)))
                | inr d ↦ elim d [ inl d ↦ omega (arith, c.2, d.2) | inr d ↦ omega (arith, c.2, d.2) ]
              ]
            ]
          ];
        };
        roots = λ v lt e. elim (is v lt) [
          | inl c ↦ w.roots v lt (sym c.1 ∙ e)
          | inr c ↦ elim c [ inl c ↦ absurd (omega (arith, c.2)) | inr c ↦ absurd (omega (arith, c.2)) ]
        ];
        most = λ v lt. elim (is v lt) [ inl c ↦ omega (arith, c.0, c.1) | inr c ↦ elim c [ inl c ↦ omega (arith, c.2) | inr c ↦ omega (arith, c.2) ] ];
        parents = λ v j lt e le. elim (is v lt) [
          | inl c ↦ (let q = w.parents v j lt (sym c.1 ∙ e) (omega (arith, c.0, c.1)) in (q.0, q.1, kept q.0 (omega (arith, q.2, c.0, c.1)) ∙ q.2, q.3))
          | inr c ↦ elim c [
            | inl c ↦ (let q = some_below_gives n (λ u. eqb (level u) k && arc u v) c.1 in
                let s = and_parts (eqb (level q.0) k) (arc q.0 v) q.2 in
                let l = eqb-true (level q.0) k s.0 in
                (q.0, q.1, kept q.0 (omega arith) ∙ l ∙ (omega (arith, c.2)), s.1))
            | inr c ↦ absurd (omega (arith, c.2))
          ]
        ];
        early = λ v lt g. (let a = w.early v lt g in let b = none v lt g in elim (is v lt) [
          | inl c ↦ elim (cases_eq (level v) k) [ inl e ↦ absurd (b e) | inr d ↦ absurd (omega (arith, c.0)) ]
          | inr c ↦ elim c [ inl c ↦ omega (arith, c.2) | inr c ↦ omega (arith, c.2) ]
        ]);
      }

  -- where nothing follows level k, the vertices up to level k are the reached set
  pub missed_goals : (k : ℕ) (level : ℕ → ℕ) → AreLevels n arc start goal k level
      → ((v : ℕ) → v < n → goal v ≡ true → level v ≡ k → ⊥)
      → ((v : ℕ) → v < n → follows_level n arc k level v ≡ true → level v ≤ k) → MissesGoals n arc start goal (those_below n (λ v. leb (level v) k))
  missed_goals k level w none only =
      let p = w.potential in
      let reached = those_below n (λ v. leb (level v) k) in
      let inside : (v : ℕ) → v < n → level v ≤ k → is_member v reached ≡ true = λ v lt le. (let a = is_member-those_below v n (λ z. leb (level z) k) in let b = le-leb (level v) k le in grind (arith, nat_tests)) in
      let outside : (v : ℕ) → is_member v reached ≡ true → (v < n) × (level v ≤ k) = λ v h. (let a = is_member-those_below v n (λ z. leb (level z) k) in (grind (arith, nat_tests), grind (arith, nat_tests))) in
      record {
        reach = record {
          set = IsSet-those_below n (λ v. leb (level v) k);
          starts = λ v lt s. (let e = p.starts v lt s in inside v lt (omega arith));
          closed = λ u v h lt a. (let o = outside u h in elim (cases_eq (level u) k) [
            | inl e ↦ inside v lt (only v lt (follows n arc k level u v o.0 e a))
            | inr d ↦ (let r = p.rises u v o.0 lt a in inside v lt (omega (arith, o.1)))
          ]);
          walks = λ v h. (let o = outside v h in let t = indexed_walk_to k level w (level v) v o.0 refl o.1 in (listed t.0 (suc (level v)), walk_from (λ z. eqb z v) (level v) v t.0 t.1 (eq-eqb v v refl)));
        };
        misses = λ v h. (let o = outside v h in false_from_ne_true _ (λ g. (let a = w.early v o.0 g in none v o.0 g (omega (arith, o.1)))));
      }

  -- each further level leaves fewer vertices above it
  pub fewer_above : (k : ℕ) (level : ℕ → ℕ) → AreLevels n arc start goal k level → (x : ℕ) → x < n → k < level x
      → follows_level n arc k level x ≡ true
      → count_above n (suc k) (next_level n arc k level) < count_above n k level
  fewer_above k level w x lt l t =
      length-those_below_less n x (λ v. not (leb (next_level n arc k level v) (suc k))) (λ v. not (leb (level v) k))
      (λ z m c.
      elim (next_level_is n arc k level z (w.most z m)) [
        | inl d ↦ (let f = leb-false (next_level n arc k level z) (suc k) (not-true _ c) in absurd (omega (arith, d.0, d.1)))
        | inr d ↦ elim d [
          | inl d ↦ ap not (lt-leb (level z) k (omega (arith, d.0)))
          | inr d ↦ ap not (lt-leb (level z) k (omega (arith, d.0)))
        ]
      ])
      lt
      (elim (next_level_is n arc k level x (w.most x lt)) [
        | inl d ↦ absurd (omega (arith, d.0))
        | inr d ↦ elim d [
          | inl d ↦ ap not (le-leb (next_level n arc k level x) (suc k) (omega (arith, d.2)))
          | inr d ↦ absurd (both_ways _ d.1 t)
        ]
      ])
      (ap not (lt-leb (level x) k l))

  -- either the search ends at level k, or it goes on
  one_level_more : (k : ℕ) (level : ℕ → ℕ) → AreLevels n arc start goal k level
      → (Outcome n arc start goal) ⊎ (AreLevels n arc start goal (suc k) (next_level n arc k level) × (count_above n (suc k) (next_level n arc k level) < count_above n k level))
  one_level_more k level w = elim (cases_Bool (some_below n (λ v. goal v && eqb (level v) k))) [
    | inl a ↦ (let q = some_below_gives n (λ v. goal v && eqb (level v) k) a in
        let s = and_parts (goal q.0) (eqb (level q.0) k) q.2 in
        inl (inl (found_goal k level q.0 w q.1 s.0 (eqb-true (level q.0) k s.1))))
    | inr a ↦ (let none : (v : ℕ) → v < n → goal v ≡ true → level v ≡ k → ⊥ = λ v lt g e.
        both_ways _ a (some_below_from n v (λ z. goal z && eqb (level z) k) lt (and_from (goal v) (eqb (level v) k) g (eq-eqb (level v) k e))) in
        elim (cases_Bool (some_below n (λ v. not (leb (level v) k) && follows_level n arc k level v))) [
          | inl b ↦ (let q = some_below_gives n (λ v. not (leb (level v) k) && follows_level n arc k level v) b in
              let s = and_parts (not (leb (level q.0) k)) (follows_level n arc k level q.0) q.2 in
              let l = leb-false (level q.0) k (not-true _ s.0) in
              inr (next_levels k level w none, fewer_above k level w q.0 q.1 l s.1))
          | inr b ↦ inl (inr (
            those_below n (λ v. leb (level v) k),
            missed_goals k level w none (λ v lt t. elim (cases_lt k (level v)) [
              | inl more ↦ absurd (both_ways _ b (some_below_from n v (λ z. not (leb (level z) k) && follows_level n arc k level z) lt (and_from (not (leb (level v) k)) (follows_level n arc k level v) (ap not (lt-leb (level v) k more)) t)))
              | inr le ↦ le
            ]),
          ))
        ])
  ]

  -- at most d further levels
  outcome_by : (d k : ℕ) (level : ℕ → ℕ) → AreLevels n arc start goal k level → count_above n k level ≤ d
      → Outcome n arc start goal
  outcome_by zero k level w h = elim (one_level_more k level w) [ inl r ↦ r | inr m ↦ absurd (omega (arith, m.1)) ]
  outcome_by (suc d) k level w h = elim (one_level_more k level w) [ inl r ↦ r | inr m ↦ outcome_by d (suc k) (next_level n arc k level) m.0 (omega (arith, m.1)) ]

  pub first_levels : AreLevels n arc start goal 0 (λ v. cond (start v) 0 1)
  first_levels = record {
    potential = record { starts = λ v lt s. cond-true (start v) 0 1 s; rises = λ u v lu lv a. grind arith };
    roots = λ v lt e. (grind (arith, nat_tests));
    most = λ v lt. grind arith;
    parents = λ v j lt e h. absurd (omega arith);
    early = λ v lt g. omega arith;
  }

pub outcome_of : (n : ℕ) (arc : ℕ → ℕ → Bool) (start goal : ℕ → Bool) → Outcome n arc start goal
outcome_of n arc start goal = outcome_by (count_above n 0 (λ v. cond (start v) 0 1)) 0 (λ v. cond (start v) 0 1) first_levels (omega arith)
