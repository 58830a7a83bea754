-- A walk of the residual graph moves the entries of a table on: each vertex of the walk gets before it what led to it, and what was before
-- the last one is before none. The first one gets none before it, where it is a source, and there is one path more; or it gets the last
-- vertex of a path, and then what was before the last one takes the place of that as an end.
use Rattle.mat_flow.proofs.Common.{◌≡◌, ℕ, zero, suc, ◌+◌, ◌<◌, ◌≢◌, Bool, true, false, List, length, get_or, Option, Some, None, ◌⊎◌, inl, inr, refl, sym, ap, ◌∙◌, subst, arith, both_ways, cases_Bool, cases_eq, cases_lt, is_member, IsShortestWalk, IsWalk, same_place, is_member-get_or}
use Rattle.mat_flow.proofs.Common.{place_of_member, walk_differs, entry_at, entry_before, is_member_there, leads_to, one_if_none, residual_arc, residual_goal, starts_in, IsLinkTable, IsShifted}
use Rattle.mat_flow.proofs.LinkTables.{none_is_not_some, some_is_one}

-- what comes to the first vertex of a walk: none, where it is a source, or a vertex that is before none and leads there
pub record IsComing (vertices : ℕ) (arcs : List (ℕ × ℕ)) (sources : List ℕ) (old : List (Option ℕ)) (first : Option ℕ) (v : ℕ) : Type 0 where
  pub source : first ≡ None → is_member v sources ≡ true
  pub below : (u : ℕ) → first ≡ Some u → u < vertices
  pub joined : (u : ℕ) → first ≡ Some u → leads_to arcs (Some u) v ≡ true
  pub free : (u : ℕ) → first ≡ Some u → (x : ℕ) → entry_at old x ≢ Some u

module _ (vertices : ℕ) (arcs : List (ℕ × ℕ)) (sources was targets : List ℕ) (first : Option ℕ) (start goal : ℕ → Bool)
    (old new : List (Option ℕ)) (walk : List ℕ)
    (t : IsLinkTable vertices arcs sources was old)
    (w : IsWalk vertices (residual_arc arcs old) start goal walk)
    (differ : (i j : ℕ) → i < j → j < length walk → get_or walk i 0 ≢ get_or walk j 0) (s : IsShifted first walk old new)
    (coming : IsComing vertices arcs sources old first (get_or walk 0 0)) (gone : ℕ)
    (going : entry_at old (get_or walk w.arcs 0) ≡ Some gone) where
  -- an arc leads on from each vertex of the walk but the last, so it has one before it
  leaves : (j : ℕ) → suc j < length walk → entry_at old (get_or walk j 0) ≡ None → ⊥
  leaves j l none = both_ways false refl (sym (ap (λ e. leads_to arcs e (get_or walk (suc j) 0)) none) ∙ w.steps j l)

  -- where an entry comes from
  abbrev Came : ℕ → Option ℕ → Type 0
  Came v entry = ((k : ℕ) × (k < length walk) × (get_or walk k 0 ≡ v) × (entry_before first old walk k ≡ entry))
      ⊎ ((is_member v walk ≡ false) × (entry_at old v ≡ entry))

  came : (v : ℕ) (entry : Option ℕ) → entry_at new v ≡ entry → Came v entry
  came v entry e = elim (cases_Bool (is_member v walk)) [
    | inl on ↦ (let p = place_of_member v walk on in
        inl (p.0, p.1, p.2, sym (s.moved p.0 p.1) ∙ ap (entry_at new) p.2 ∙ e))
    | inr off ↦ inr (off, sym (s.kept v off) ∙ e)
  ]

  -- an entry that is there has come to the first vertex, has moved on from the vertex before, or was there
  abbrev CameFrom : ℕ → ℕ → Type 0
  CameFrom v u = ((first ≡ Some u) × (get_or walk 0 0 ≡ v))
      ⊎ (((j : ℕ) × (suc j < length walk) × (get_or walk (suc j) 0 ≡ v) × (entry_at old (get_or walk j 0) ≡ Some u))
      ⊎ ((is_member v walk ≡ false) × (entry_at old v ≡ Some u)))

  from_place : (v u k : ℕ) → k < length walk → get_or walk k 0 ≡ v → entry_before first old walk k ≡ Some u → CameFrom v u
  from_place v u zero l p e = inl (e, p)
  from_place v u (suc j) l p e = inr (inl (j, l, p, e))

  came_from : (v u : ℕ) → entry_at new v ≡ Some u → CameFrom v u
  came_from v u e = elim (came v (Some u) e) [
    | inl p ↦ from_place v u p.0 p.1 p.2 p.3
    | inr q ↦ inr (inr q)
  ]

  new_start : (v k : ℕ) → k < length walk → get_or walk k 0 ≡ v → entry_before first old walk k ≡ None → is_member v sources ≡ true
  new_start v zero l p e = subst (λ x. is_member x sources ≡ true) p (coming.source e)
  new_start v (suc j) l p e = absurd (leaves j l e)

  -- the place of the last vertex
  last_place : (j : ℕ) → j < length walk → (suc j < length walk → ⊥) → w.arcs ≡ j
  last_place j l past =
      let long = w.long in
      elim (cases_lt (suc j) (length walk)) [ inl m ↦ absurd (past m) | inr m ↦ omega arith ]

  -- what was before the last vertex is before none
  gone_is : (j u : ℕ) → j < length walk → (suc j < length walk → ⊥) → entry_at old (get_or walk j 0) ≡ Some u → u ≡ gone
  gone_is j u l past e =
      some_is_one u gone (sym e ∙ ap (λ i. entry_at old (get_or walk i 0)) (sym (last_place j l past)) ∙ going)

  -- no entry that moved on is one that stayed
  apart : (v x u j : ℕ) → j < length walk → entry_at old (get_or walk j 0) ≡ Some u → is_member x walk ≡ false
      → entry_at old x ≡ Some u → v ≡ x
  apart v x u j l e off f = absurd (both_ways (is_member x walk) off (is_member-get_or walk j x l (t.once (get_or walk j 0) x u e f)))

  -- what came to the first vertex was before none
  fresh : (v x u : ℕ) → first ≡ Some u → ((j : ℕ) × (suc j < length walk) × (get_or walk (suc j) 0 ≡ x) × (entry_at old (get_or walk j 0) ≡ Some u))
      ⊎ ((is_member x walk ≡ false) × (entry_at old x ≡ Some u)) → v ≡ x
  fresh v x u f (inl p) = absurd (coming.free u f _ p.3)
  fresh v x u f (inr q) = absurd (coming.free u f x q.1)

  new_once : (v x u : ℕ) → CameFrom v u → CameFrom x u → v ≡ x
  new_once v x u (inl p) (inl q) = sym p.1 ∙ q.1
  new_once v x u (inl p) (inr q) = fresh v x u p.0 q
  new_once v x u (inr p) (inl q) = sym (fresh x v u q.0 p)
  new_once v x u (inr (inl p)) (inr (inl q)) =
      let same = same_place walk differ p.0 q.0 (let l = p.1 in omega arith) (let l = q.1 in omega arith) (t.once _ _ u p.3 q.3) in
      sym p.2 ∙ ap (λ i. get_or walk (suc i) 0) same ∙ q.2
  new_once v x u (inr (inl p)) (inr (inr q)) = apart v x u p.0 (let l = p.1 in omega arith) p.3 q.0 q.1
  new_once v x u (inr (inr p)) (inr (inl q)) = sym (apart x v u q.0 (let l = q.1 in omega arith) q.3 p.0 p.1)
  new_once v x u (inr (inr p)) (inr (inr q)) = t.once v x u p.1 q.1

  -- what is before none now is what was before the last vertex, or was before none
  new_ends : (u : ℕ) → ((v : ℕ) → entry_at new v ≢ Some u) → u ≢ gone → (v : ℕ) → entry_at old v ≢ Some u
  new_ends u none other v e = elim (cases_Bool (is_member v walk)) [
    | inr off ↦ none v (s.kept v off ∙ e)
    | inl on ↦ (let p = place_of_member v walk on in
        let held = ap (entry_at old) p.2 ∙ e in
        other (gone_is p.0 u p.1 (λ m. none (get_or walk (suc p.0) 0) (s.moved (suc p.0) m ∙ held)) held))
  ]

  -- what came to the first vertex is before it
  not_first : (u : ℕ) → ((v : ℕ) → entry_at new v ≢ Some u) → first ≢ Some u
  not_first u none e = none (get_or walk 0 0) (s.moved 0 (let long = w.long in omega arith) ∙ e)

  pub IsLinkTable-shifted : is_member gone targets ≡ true
      → ((u : ℕ) → is_member u was ≡ true → first ≢ Some u → is_member u targets ≡ true) → IsLinkTable vertices arcs sources targets new
  IsLinkTable-shifted ends stay = record {
    long = s.long ∙ t.long;
    below = λ v u e. elim (came_from v u e) [
      | inl f ↦ coming.below u f.0
      | inr (inl p) ↦ t.below (get_or walk p.0 0) u p.3
      | inr (inr q) ↦ t.below v u q.1
    ];
    joined = λ v u e. elim (came_from v u e) [
      | inl f ↦ subst (λ x. leads_to arcs (Some u) x ≡ true) f.1 (coming.joined u f.0)
      | inr (inl p) ↦ subst (λ x. leads_to arcs (Some u) x ≡ true) p.2
          (subst (λ f. leads_to arcs f (get_or walk (suc p.0) 0) ≡ true) p.3 (w.steps p.0 p.1))
      | inr (inr q) ↦ t.joined v u q.1
    ];
    starts = λ v l e. elim (came v None e) [ inl p ↦ new_start v p.0 p.1 p.2 p.3 | inr q ↦ t.starts v l q.1 ];
    ends = λ u l none. elim (cases_eq u gone) [
      | inl is ↦ ap (λ x. is_member x targets) is ∙ ends
      | inr other ↦ stay u (t.ends u l (new_ends u none other)) (not_first u none)
    ];
    once = λ v x u e f. new_once v x u (came_from v u e) (came_from x u f);
  }

  -- what is before none in the table, and does not come to the first vertex, stays before none
  pub stays_free : (u : ℕ) → ((v : ℕ) → entry_at old v ≢ Some u) → first ≢ Some u → (v : ℕ) → entry_at new v ≢ Some u
  stays_free u free other v e = elim (came_from v u e) [
    | inl f ↦ other f.0
    | inr (inl p) ↦ free (get_or walk p.0 0) p.3
    | inr (inr q) ↦ free v q.1
  ]

  -- what was before the last vertex is before none now
  pub gone_free : (v : ℕ) → entry_at new v ≢ Some gone
  gone_free v e = elim (came_from v gone e) [
    | inl f ↦ coming.free gone f.0 (get_or walk w.arcs 0) going
    | inr (inl p) ↦ differ p.0 w.arcs (let l = p.1 in let long = w.long in omega arith) (let long = w.long in omega arith)
        (t.once _ _ gone p.3 going)
    | inr (inr q) ↦ both_ways (is_member v walk) q.0 (is_member-get_or walk w.arcs v (let long = w.long in omega arith) (t.once _ v gone going q.1))
  ]

  -- as many vertices more have none before them as come to the first vertex
  pub starts_in-shifted : starts_in new ≡ starts_in old + one_if_none first
  starts_in-shifted =
      let end : entry_before first old walk (length walk) ≡ Some gone = ap (entry_before first old walk) w.long ∙ going in
      let more = s.starts in
      let none : one_if_none (entry_before first old walk (length walk)) ≡ 0 = ap one_if_none end in
      omega arith

-- ---- one path more

-- a source comes with none before it
pub source_comes : (vertices : ℕ) (arcs : List (ℕ × ℕ)) (sources : List ℕ) (old : List (Option ℕ)) (v : ℕ) → is_member v sources ≡ true
    → IsComing vertices arcs sources old None v
source_comes vertices arcs sources old v is = record {
  source = λ e. is;
  below = λ u e. absurd (none_is_not_some u e);
  joined = λ u e. absurd (none_is_not_some u e);
  free = λ u e. absurd (none_is_not_some u e);
}

-- the vertex before a goal
pub before_goal : (targets : List ℕ) (entry : Option ℕ) → is_member_there entry targets ≡ true
    → (u : ℕ) × (entry ≡ Some u) × (is_member u targets ≡ true)
before_goal targets None h = absurd (both_ways false refl h)
before_goal targets (Some u) h = (u, refl, h)

-- a shortest walk makes one path more
pub augmented : (vertices : ℕ) (arcs : List (ℕ × ℕ)) (sources targets : List ℕ) (old read new : List (Option ℕ)) (walk lent : List ℕ)
    → read ≡ old → lent ≡ walk → IsLinkTable vertices arcs sources targets old
    → IsShortestWalk vertices (residual_arc arcs read) (λ v. is_member v sources) (residual_goal targets read) walk
    → IsShifted None lent old new → IsLinkTable vertices arcs sources targets new × (starts_in new ≡ suc (starts_in old))
augmented vertices arcs sources targets old read new walk lent same e t shortest s =
    let start : ℕ → Bool = λ v. is_member v sources in
    let found = subst
    (λ b. IsShortestWalk vertices (residual_arc arcs b) start (residual_goal targets b) walk) same shortest in
    let moved : IsShifted None walk old new = subst (λ w. IsShifted None w old new) e s in
    let differ = walk_differs vertices (residual_arc arcs old) start (residual_goal targets old) walk walk refl found in
    let w = found.walk in
    let last = before_goal targets (entry_at old (get_or walk w.arcs 0)) w.last in
    let coming = source_comes vertices arcs sources old (get_or walk 0 0) w.first in (
      IsLinkTable-shifted vertices arcs sources targets targets None start (residual_goal targets old) old new walk t w differ moved coming last.0
          last.1 last.2 (λ u m other. m),
      (let more = starts_in-shifted vertices arcs sources targets targets None start (residual_goal targets old) old new walk t w differ moved coming
          last.0 last.1 in omega arith),
    )
