-- The paths that a table holds, read from their starts: going back from a vertex leads to one start in one number of steps, so no vertex
-- stands twice in a path, and none in two paths with different starts.
use Rattle.mat_flow.proofs.Common.{◌≡◌, ℕ, zero, suc, ◌+◌, ◌<◌, ◌≤◌, ◌≢◌, true, List, [], ◌∷◌, ◌++◌, length, get_or, set, Option, Some, None, inl, inr, refl, sym, ap, ◌∙◌, subst, arith, length-set, cases_eq, cases_lt, get_or_append_left, get_or_push, length_push, is_member, AllBelow-from_members}
use Rattle.mat_flow.proofs.Common.{length-distinct_below, AreDistinct-index, members_by_place, place_of_member, entry_at, IsReversed, IsTrail}
use Rattle.mat_flow.proofs.LinkTables.{entry_set, none_is_not_some, some_is_one}

-- ---- the table of the vertex after each vertex

-- the entries of the first n vertices are turned round
pub record IsReversing (before : List (Option ℕ)) (n : ℕ) (after : List (Option ℕ)) : Type 0 where
  pub long : length after ≡ length before
  pub turned : (u v : ℕ) → entry_at after u ≡ Some v → (v < n) × (entry_at before v ≡ Some u)
  pub none : (u v : ℕ) → u < length after → v < n → entry_at after u ≡ None → entry_at before v ≢ Some u

pub IsReversing-skip : (before : List (Option ℕ)) (n : ℕ) (after : List (Option ℕ)) → entry_at before n ≡ None
    → IsReversing before n after
    → IsReversing before (n + 1) after
IsReversing-skip before n after empty r = record {
  long = r.long;
  turned = λ u v e. (let t = r.turned u v e in let l = t.0 in (omega arith, t.1));
  none = λ u v l m e f. elim (cases_eq v n) [
    | inl same ↦ none_is_not_some u (sym (ap (entry_at before) same ∙ empty) ∙ f)
    | inr d ↦ r.none u v l (omega arith) e f
  ];
}

pub IsReversing-put : (before : List (Option ℕ)) (n w : ℕ) (after : List (Option ℕ)) → entry_at before n ≡ Some w → w < length after
    → IsReversing before n after → IsReversing before (n + 1) (set after w (Some n))
IsReversing-put before n w after here inside r = record {
  long = length-set after w (Some n) ∙ r.long;
  turned = λ u v e. elim (entry_set after w (Some n) u inside) [
    | inl a ↦ (let same : n ≡ v = some_is_one n v (sym a.1 ∙ e) in
        (omega arith, subst (λ x. entry_at before x ≡ Some u) same (here ∙ ap Some (sym a.0))))
    | inr a ↦ (let t = r.turned u v (sym a.1 ∙ e) in let l = t.0 in (omega arith, t.1))
  ];
  none = λ u v l m e f. elim (entry_set after w (Some n) u inside) [
    | inl a ↦ none_is_not_some n (sym e ∙ a.1)
    | inr a ↦ elim (cases_eq v n) [
      | inl same ↦ a.0 (some_is_one u w (sym f ∙ ap (entry_at before) same ∙ here))
      | inr d ↦ r.none u v (let long = length-set after w (Some n) in omega arith) (omega arith) (sym a.1 ∙ e) f
    ]
  ];
}

-- ---- reading one path

-- the path is read up to the vertex `at`
pub record IsReading (after : List (Option ℕ)) (start : ℕ) (path : List ℕ) (at : ℕ) : Type 0 where
  pub some : 0 < length path
  pub first : get_or path 0 0 ≡ start
  pub steps : (i : ℕ) → suc i < length path → entry_at after (get_or path i 0) ≡ Some (get_or path (suc i) 0)
  pub here : (i : ℕ) → suc i ≡ length path → get_or path i 0 ≡ at

pub IsReading-next : (after : List (Option ℕ)) (start : ℕ) (path : List ℕ) (at next : ℕ) → entry_at after at ≡ Some next
    → IsReading after start path at → IsReading after start (path ++ next ∷ []) next
IsReading-next after start path at next e r =
    let some = r.some in
    let long = length_push path next in
    let kept : (i : ℕ) → i < length path → get_or (path ++ next ∷ []) i 0 ≡ get_or path i 0 =
    λ i l. get_or_append_left path (next ∷ []) 0 i l in
    let last : (i : ℕ) → i ≡ length path → get_or (path ++ next ∷ []) i 0 ≡ next = λ i same. get_or_push path next 0 i (sym same) in
    record {
      some = omega arith;
      first = kept 0 some ∙ r.first;
      steps = λ i l. elim (cases_lt (suc i) (length path)) [
        | inl m ↦ ap (entry_at after) (kept i (omega arith)) ∙ r.steps i m ∙ ap Some (sym (kept (suc i) m))
        | inr m ↦ ap (entry_at after) (kept i (omega arith) ∙ r.here i (omega arith)) ∙ e ∙ ap Some (sym (last (suc i) (omega arith)))
      ];
      here = λ i l. last i (omega arith);
    }

-- no vertex is read twice, so the path is no longer than the table
module _ (after : List (Option ℕ)) (start : ℕ) (first : (u : ℕ) → entry_at after u ≢ Some start)
    (once : (u w v : ℕ) → entry_at after u ≡ Some v → entry_at after w ≡ Some v → u ≡ w) where
  reading_differs : (path : List ℕ) (at : ℕ) → IsReading after start path at → (i j : ℕ) → i < j → j < length path
      → get_or path i 0 ≢ get_or path j 0
  reading_differs path at r i zero l m e = absurd (omega arith)
  reading_differs path at r zero (suc j) l m e = first (get_or path j 0) (r.steps j m ∙ ap Some (sym e ∙ r.first))
  reading_differs path at r (suc i) (suc j) l m e =
      reading_differs path at r i j (omega arith) (omega arith)
      (once (get_or path i 0) (get_or path j 0) (get_or path (suc j) 0) (r.steps i (omega arith) ∙ ap Some e) (r.steps j m))

  module _ (inside : start < length after) (below : (u v : ℕ) → entry_at after u ≡ Some v → v < length after) where
    pub reading_below : (path : List ℕ) (at : ℕ) → IsReading after start path at → (i : ℕ) → i < length path
        → get_or path i 0 < length after
    reading_below path at r zero l = subst (λ v. v < length after) (sym r.first) inside
    reading_below path at r (suc i) l = below (get_or path i 0) (get_or path (suc i) 0) (r.steps i l)

    pub length-reading : (path : List ℕ) (at : ℕ) → IsReading after start path at → length path ≤ length after
    length-reading path at r =
        length-distinct_below (length after) path (AreDistinct-index path (reading_differs path at r))
        (AllBelow-from_members (length after) path (members_by_place (λ v. v < length after) path (reading_below path at r)))

    pub at_below : (path : List ℕ) (at : ℕ) → IsReading after start path at → at < length after
    at_below path at r = at_last (length path) refl
      where
        at_last : (n : ℕ) → length path ≡ n → at < length after
        at_last zero e = let some = r.some in absurd (omega arith)
        at_last (suc i) e = subst (λ v. v < length after) (r.here i (sym e)) (reading_below path at r i (omega arith))

-- ---- going back from a vertex

-- k steps back from x lead to s
abbrev LeadsBack : List (Option ℕ) → ℕ → ℕ → ℕ → Type 0
LeadsBack before zero s x = s ≡ x
LeadsBack before (suc k) s x = (u : ℕ) × (entry_at before x ≡ Some u) × LeadsBack before k s u

back_is_one : (before : List (Option ℕ)) (k m s t x : ℕ) → entry_at before s ≡ None → entry_at before t ≡ None → LeadsBack before k s x
    → LeadsBack before m t x → (k ≡ m) × (s ≡ t)
back_is_one before zero zero s t x hs ht a b = (refl, a ∙ sym b)
back_is_one before zero (suc m) s t x hs ht a b = absurd (none_is_not_some b.0 (sym hs ∙ ap (entry_at before) a ∙ b.1))
back_is_one before (suc k) zero s t x hs ht a b = absurd (none_is_not_some a.0 (sym ht ∙ ap (entry_at before) b ∙ a.1))
back_is_one before (suc k) (suc m) s t x hs ht a b =
    let same : b.0 ≡ a.0 = some_is_one b.0 a.0 (sym b.1 ∙ a.1) in
    let rest = back_is_one before k m s t a.0 hs ht a.2 (subst (LeadsBack before m t) same b.2) in
    (ap suc rest.0, rest.1)

trail_back : (before after : List (Option ℕ)) (s : ℕ) (path : List ℕ) → IsReversed before after → IsTrail after s path → (i : ℕ)
    → i < length path → LeadsBack before i s (get_or path i 0)
trail_back before after s path r t zero l = sym t.first
trail_back before after s path r t (suc i) l =
    (get_or path i 0, r.turned (get_or path i 0) (get_or path (suc i) 0) (t.steps i l), trail_back before after s path r t i (omega arith))

-- vertices at different places of a path differ
pub trail_differs : (before after : List (Option ℕ)) (s : ℕ) (path : List ℕ) → IsReversed before after → entry_at before s ≡ None
    → IsTrail after s path → (i j : ℕ) → i < j → j < length path → get_or path i 0 ≢ get_or path j 0
trail_differs before after s path r none t i j l m e =
    let same = (back_is_one before i j s s (get_or path j 0) none none
    (subst (LeadsBack before i s) e (trail_back before after s path r t i (omega arith))) (trail_back before after s path r t j m)).0 in
    omega arith

-- paths with a common vertex have one start
pub trails_meet : (before after : List (Option ℕ)) (s t : ℕ) (path other : List ℕ) (x : ℕ) → IsReversed before after
    → entry_at before s ≡ None → entry_at before t ≡ None → IsTrail after s path → IsTrail after t other
    → is_member x path ≡ true → is_member x other ≡ true → s ≡ t
trails_meet before after s t path other x r hs ht p q on both =
    let a = place_of_member x path on in
    let b = place_of_member x other both in
    (back_is_one before a.0 b.0 s t x hs ht (subst (LeadsBack before a.0 s) a.2 (trail_back before after s path r p a.0 a.1))
    (subst (LeadsBack before b.0 t) b.2 (trail_back before after t other r q b.0 b.1))).1
