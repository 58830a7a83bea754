-- What walks from the starts reach (Schrijver, chapter 6).
use Rattle.mat_sets.proofs.Common.{Bool, List, arith, eqb, false, get_or, inl, inr, length, subst, suc, sym, true, zero, ℕ, ◌<◌, ◌≡◌, ◌≢◌, ◌⊎◌, both_ways, eqb-true, false≢true, IsSubset, is_member, IsChordless, IsReachedSet, IsShortestWalk, IsWalk}
use Rattle.mat_sets.proofs.Levels.{chordless_by, outcome_of, shortest_by}
use Rattle.mat_sets.proofs.Subsets.{subsets_equal}

-- either a walk with fewest vertices, or a reached set that misses the goals
pub finite_reach : (n : ℕ) (arc : ℕ → ℕ → Bool) (start goal : ℕ → Bool)
    → ((vertices : List ℕ) × IsShortestWalk n arc start goal vertices) ⊎ ((reached : List ℕ) × IsReachedSet n arc start reached × ((v : ℕ) → is_member v reached ≡ true → goal v ≡ false))
finite_reach n arc start goal = elim (outcome_of n arc start goal) [
  | inl q ↦ (let c = q.1 in inl (q.0, shortest_by c.level q.0 c.potential c.walk c.far))
  | inr q ↦ (let c = q.1 in inr (q.0, c.reach, c.misses))
]

-- a walk stays inside what its start reaches
pub walk_stays_reached : {n : ℕ} {arc : ℕ → ℕ → Bool} {start goal : ℕ → Bool} (reached vertices : List ℕ)
    → IsReachedSet n arc start reached → IsWalk n arc start goal vertices → (i : ℕ) → i < length vertices
    → is_member (get_or vertices i 0) reached ≡ true
walk_stays_reached reached vertices r w zero h = r.starts (get_or vertices 0 0) (w.below 0 h) w.first
walk_stays_reached reached vertices r w (suc i) h = r.closed (get_or vertices i 0) (get_or vertices (suc i) 0) (walk_stays_reached reached vertices r w i (omega arith)) (w.below (suc i) h) (w.steps i h)

-- a walk with fewest vertices has no repetition and no chord: the levels of its vertices are 0, 1, and so on
pub shortest_walk_is_chordless : (n : ℕ) (arc : ℕ → ℕ → Bool) (start goal : ℕ → Bool) (vertices : List ℕ)
    → IsShortestWalk n arc start goal vertices → IsChordless n arc start goal vertices
shortest_walk_is_chordless n arc start goal vertices s =
    let w = s.walk in
    let l = w.long in
    elim (outcome_of n arc start goal) [
      | inl q ↦ (let c = q.1 in
          let others = q.0 in
          let few = s.fewest others c.walk in
          let m = c.walk.long in
          chordless_by c.level vertices c.potential w (λ v lt g. (let a = c.far v lt g in omega arith)))
      | inr q ↦ (let c = q.1 in absurd (both_ways _ (c.misses (get_or vertices w.arcs 0) (walk_stays_reached q.0 vertices c.reach w w.arcs (omega arith))) w.last))
    ]

-- the vertices of a shortest walk differ
pub walk_differs : (vertices : ℕ) (arc : ℕ → ℕ → Bool) (start goal : ℕ → Bool) (walk lent : List ℕ) → lent ≡ walk
    → IsShortestWalk vertices arc start goal walk → (i j : ℕ) → i < j → j < length lent → get_or lent i 0 ≢ get_or lent j 0
walk_differs vertices arc start goal walk lent e shortest =
    subst (λ w. (i j : ℕ) → i < j → j < length w → get_or w i 0 ≢ get_or w j 0) (sym e)
    (shortest_walk_is_chordless vertices arc start goal walk shortest).differ

-- what holds of the starts and goes along arcs holds of each member of the reached set
pub reached_by_induction : {n : ℕ} {arc : ℕ → ℕ → Bool} {start : ℕ → Bool} (reached : List ℕ) (f : ℕ → Bool)
    → IsReachedSet n arc start reached
    → ((v : ℕ) → v < n → start v ≡ true → f v ≡ true)
    → ((u v : ℕ) → is_member u reached ≡ true → v < n → f u ≡ true → arc u v ≡ true → f v ≡ true)
    → (v : ℕ) → is_member v reached ≡ true → f v ≡ true
reached_by_induction {n} {arc} {start} reached f r base step v h =
    let q = r.walks v h in
    let w = q.1 in
    let l = w.long in
    let e : get_or q.0 w.arcs 0 ≡ v = eqb-true (get_or q.0 w.arcs 0) v w.last in
    subst (λ z. f z ≡ true) e (along q.0 w w.arcs (omega arith))
  where
    along : (vertices : List ℕ) → IsWalk n arc start (λ z. eqb z v) vertices → (i : ℕ) → i < length vertices
        → f (get_or vertices i 0) ≡ true
    along vertices w zero h = base (get_or vertices 0 0) (w.below 0 h) w.first
    along vertices w (suc i) h = step (get_or vertices i 0) (get_or vertices (suc i) 0) (walk_stays_reached reached vertices r w i (omega arith)) (w.below (suc i) h) (along vertices w i (omega arith)) (w.steps i h)

-- where the reached set misses the goals, no walk leads to one
pub missed_goals_have_no_walk : (n : ℕ) (arc : ℕ → ℕ → Bool) (start goal : ℕ → Bool) (reached vertices : List ℕ)
    → IsReachedSet n arc start reached → ((v : ℕ) → is_member v reached ≡ true → goal v ≡ false)
    → IsWalk n arc start goal vertices → ⊥
missed_goals_have_no_walk n arc start goal reached vertices r misses w =
    let l = w.long in
    both_ways _ (misses (get_or vertices w.arcs 0) (walk_stays_reached reached vertices r w w.arcs (omega arith))) w.last

reached_inside : {n : ℕ} {arc : ℕ → ℕ → Bool} {start : ℕ → Bool} (a b : List ℕ) → IsReachedSet n arc start a
    → IsReachedSet n arc start b → IsSubset a b
reached_inside a b r s = record { inside = reached_by_induction a (λ x. is_member x b) r s.starts (λ u v m l h e. s.closed u v h l e) }

-- there is one reached set
pub reached_set_is_unique : {n : ℕ} {arc : ℕ → ℕ → Bool} {start : ℕ → Bool} (a b : List ℕ)
    → IsReachedSet n arc start a → IsReachedSet n arc start b → a ≡ b
reached_set_is_unique a b r s = subsets_equal a b r.set.rising s.set.rising (reached_inside a b r s) (reached_inside b a s r)

pub reached_set_exists : (n : ℕ) (arc : ℕ → ℕ → Bool) (start : ℕ → Bool)
    → (reached : List ℕ) × IsReachedSet n arc start reached
reached_set_exists n arc start = elim (finite_reach n arc start (λ v. false)) [
  | inl q ↦ absurd (false≢true q.1.walk.last)
  | inr q ↦ (q.0, q.1)
]
