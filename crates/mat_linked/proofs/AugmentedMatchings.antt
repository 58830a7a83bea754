-- A matching whose elements have moved on along an augmenting walk is a matching with the new element: each element of the walk comes to
-- an index of a set that holds it, and none is lost, since nothing stood at the last index.
use Rattle.mat_linked.proofs.Common.{◌≡◌, ℕ, zero, suc, ◌<◌, ◌≢◌, true, false, eqb, List, length, get_or, is_none, Option, Some, ◌⊎◌, inl, inr, refl, sym, ap, ◌∙◌, subst, arith, both_ways, cases_Bool, cases_lt, eq-eqb, eqb-true, or_cases, or_left, or_right, is_member, with_one, IsShortestWalk}
use Rattle.mat_linked.proofs.Common.{IsWalk, same_place, is_member-get_or, is_member-with_one, place_of_member, walk_differs, row_at, entry_at, entry_before, IsShifted, some_is_one, is_held, IsMatching}

module _ (sets : ℕ) (rows : List (List ℕ)) (X : List ℕ) (old new : List (Option ℕ)) (element : ℕ) (walk : List ℕ)
    (t : IsMatching rows X old)
    (fresh : is_member element X ≡ false)
    (w : IsWalk sets (λ j. is_held rows (entry_at old j)) (λ j. is_member j (row_at rows element)) (λ j. is_none (entry_at old j)) walk)
    (differ : (i j : ℕ) → i < j → j < length walk → get_or walk i 0 ≢ get_or walk j 0) (s : IsShifted (Some element) walk old new) where
  -- where the element at an index comes from: it is the new one, it has moved on from the index before, or it has stayed
  abbrev CameFrom : ℕ → ℕ → Type 0
  CameFrom j x = ((get_or walk 0 0 ≡ j) × (element ≡ x))
      ⊎ (((i : ℕ) × (suc i < length walk) × (get_or walk (suc i) 0 ≡ j) × (entry_at old (get_or walk i 0) ≡ Some x))
      ⊎ ((is_member j walk ≡ false) × (entry_at old j ≡ Some x)))

  from_place : (j x k : ℕ) → k < length walk → get_or walk k 0 ≡ j → entry_before (Some element) old walk k ≡ Some x → CameFrom j x
  from_place j x zero l p e = inl (p, some_is_one element x e)
  from_place j x (suc i) l p e = inr (inl (i, l, p, e))

  came_from : (j x : ℕ) → entry_at new j ≡ Some x → CameFrom j x
  came_from j x e = elim (cases_Bool (is_member j walk)) [
    | inl on ↦ (let p = place_of_member j walk on in
        from_place j x p.0 p.1 p.2 (sym (s.moved p.0 p.1) ∙ ap (entry_at new) p.2 ∙ e))
    | inr off ↦ inr (inr (off, sym (s.kept j off) ∙ e))
  ]

  held_after : (j x : ℕ) → CameFrom j x → is_member j (row_at rows x) ≡ true
  held_after j x (inl p) =
      subst (λ y. is_member j (row_at rows y) ≡ true) p.1 (subst (λ i. is_member i (row_at rows element) ≡ true) p.0 w.first)
  held_after j x (inr (inl p)) =
      subst (λ i. is_member i (row_at rows x) ≡ true) p.2 (subst (λ e. is_held rows e (get_or walk (suc p.0) 0) ≡ true) p.3 (w.steps p.0 p.1))
  held_after j x (inr (inr p)) = t.held j x p.1

  old_member : (x : ℕ) → is_member x X ≡ true → is_member x (with_one X element) ≡ true
  old_member x m = is_member-with_one x element X ∙ or_right (eqb x element) (is_member x X) m

  inside_after : (j x : ℕ) → CameFrom j x → is_member x (with_one X element) ≡ true
  inside_after j x (inl p) = is_member-with_one x element X ∙ or_left (eqb x element) (is_member x X) (eq-eqb x element (sym p.1))
  inside_after j x (inr (inl p)) = old_member x (t.inside (get_or walk p.0 0) x p.3)
  inside_after j x (inr (inr p)) = old_member x (t.inside j x p.1)

  -- the last index of the walk holds nothing
  goes_on : (i x : ℕ) → i < length walk → entry_at old (get_or walk i 0) ≡ Some x → suc i < length walk
  goes_on i x l e = elim (cases_lt (suc i) (length walk)) [
    | inl more ↦ more
    | inr past ↦
        let long = w.long in
        let here : w.arcs ≡ i = omega arith in
        absurd (both_ways (is_none (entry_at old (get_or walk w.arcs 0))) (ap is_none (ap (λ k. entry_at old (get_or walk k 0)) here ∙ e)) w.last)
  ]

  covered_before : (x j : ℕ) → entry_at old j ≡ Some x → (k : ℕ) × (entry_at new k ≡ Some x)
  covered_before x j e = elim (cases_Bool (is_member j walk)) [
    | inl on ↦ (let p = place_of_member j walk on in
        let was = ap (entry_at old) p.2 ∙ e in
        (get_or walk (suc p.0) 0, s.moved (suc p.0) (goes_on p.0 x p.1 was) ∙ was))
    | inr off ↦ (j, s.kept j off ∙ e)
  ]

  covered_after : (x : ℕ) → is_member x (with_one X element) ≡ true → (k : ℕ) × (entry_at new k ≡ Some x)
  covered_after x m = elim (or_cases (eqb x element) (is_member x X) (sym (is_member-with_one x element X) ∙ m)) [
    | inl same ↦ (get_or walk 0 0, s.moved 0 (let long = w.long in omega arith) ∙ ap Some (sym (eqb-true x element same)))
    | inr before ↦ (let c = t.covered x before in covered_before x c.0 c.1)
  ]

  -- the new element stood nowhere
  not_before : (j x : ℕ) → element ≡ x → entry_at old j ≡ Some x → ⊥
  not_before j x same e = both_ways (is_member element X) fresh (ap (λ z. is_member z X) same ∙ t.inside j x e)

  -- what has moved on was not at an index off the walk
  moved_or_stayed : (i k x : ℕ) → suc i < length walk → entry_at old (get_or walk i 0) ≡ Some x → is_member k walk ≡ false
      → entry_at old k ≡ Some x → ⊥
  moved_or_stayed i k x l e off f =
      both_ways (is_member k walk) off (is_member-get_or walk i k (omega arith) (t.once (get_or walk i 0) k x e f))

  once_after : (j k x : ℕ) → CameFrom j x → CameFrom k x → j ≡ k
  once_after j k x (inl p) (inl q) = sym p.0 ∙ q.0
  once_after j k x (inl p) (inr (inl q)) = absurd (not_before (get_or walk q.0 0) x p.1 q.3)
  once_after j k x (inl p) (inr (inr q)) = absurd (not_before k x p.1 q.1)
  once_after j k x (inr (inl p)) (inl q) = absurd (not_before (get_or walk p.0 0) x q.1 p.3)
  once_after j k x (inr (inr p)) (inl q) = absurd (not_before j x q.1 p.1)
  once_after j k x (inr (inl p)) (inr (inl q)) =
      let same = same_place walk differ p.0 q.0 (let l = p.1 in omega arith) (let l = q.1 in omega arith)
      (t.once (get_or walk p.0 0) (get_or walk q.0 0) x p.3 q.3) in
      sym p.2 ∙ ap (λ i. get_or walk (suc i) 0) same ∙ q.2
  once_after j k x (inr (inl p)) (inr (inr q)) = absurd (moved_or_stayed p.0 k x p.1 p.3 q.0 q.1)
  once_after j k x (inr (inr p)) (inr (inl q)) = absurd (moved_or_stayed q.0 j x q.1 q.3 p.0 p.1)
  once_after j k x (inr (inr p)) (inr (inr q)) = t.once j k x p.1 q.1

  pub IsMatching-moved : IsMatching rows (with_one X element) new
  IsMatching-moved = record {
    held = λ j x e. held_after j x (came_from j x e);
    inside = λ j x e. inside_after j x (came_from j x e);
    covered = covered_after;
    once = λ j k x e f. once_after j k x (came_from j x e) (came_from k x f);
  }

-- a shortest walk matches one element more
pub augmented : (sets : ℕ) (rows : List (List ℕ)) (old read new : List (Option ℕ)) (element : ℕ) (walk lent : List ℕ) → read ≡ old
    → lent ≡ walk
    → IsShortestWalk sets (λ j. is_held rows (entry_at read j)) (λ j. is_member j (row_at rows element)) (λ j. is_none (entry_at read j)) walk
    → IsShifted (Some element) lent old new → (X : List ℕ) → is_member element X ≡ false → IsMatching rows X old
    → IsMatching rows (with_one X element) new
augmented sets rows old read new element walk lent same e shortest s X fresh t =
    let found = subst
    (λ b. IsShortestWalk sets (λ j. is_held rows (entry_at b j)) (λ j. is_member j (row_at rows element)) (λ j. is_none (entry_at b j)) walk)
    same shortest in
    let differ = walk_differs sets (λ j. is_held rows (entry_at old j)) (λ j. is_member j (row_at rows element)) (λ j. is_none (entry_at old j))
    walk walk refl found in
    IsMatching-moved sets rows X old new element walk t fresh found.walk differ (subst (λ v. IsShifted (Some element) v old new) e s)
