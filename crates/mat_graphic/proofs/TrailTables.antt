-- The tables of the search that roots the trees of a forest: the places of each vertex in a list, the ends of the members of a set, and the
-- vertices found so far.
use Rattle.mat_graphic.proofs.Common.{is_some, ◌≡◌, ℕ, suc, ◌<◌, ◌≤◌, ◌≢◌, Bool, true, false, ◌||◌, eqb, ltb, List, [], ◌∷◌, ◌++◌, length, get_or, set, Option, Some, None, ◌⊎◌, inl, inr, refl, sym, ap, ◌∙◌, subst, arith, get_or-set_other, get_or-set_same, length-set, length-append, cases_eq}
use Rattle.mat_graphic.proofs.Common.{cases_lt, eq-eqb, ne_eqb, lt-ltb, both_ways, false_from_ne_true, false≢true, and_right, or_cases, or_left, or_right, get_or_append_left, get_or_default, is_member, AllBelow, IsNextFrom, Joins, is_member-append, is_member-get_or, place_of_member, least_merged}
use Rattle.mat_graphic.proofs.Common.{stands_at, ArePlaces, IsFindable, IsOrder, IsTree}
use Rattle.std.proofs.Math.Seq.{get_or-append_seam}

stands_here : (list : List ℕ) (i : ℕ) → i < length list → stands_at list (get_or list i 0) i ≡ true
stands_here list i l = rw (lt-ltb i (length list) l, eq-eqb (get_or list i 0) (get_or list i 0) refl) refl

stands_not : (list : List ℕ) (v i : ℕ) → get_or list i 0 ≢ v → stands_at list v i ≡ false
stands_not list v i other = rw (ne_eqb (get_or list i 0) v other) (and_right (ltb i (length list)) false refl)

-- where the test fails at i, the next from i on is the next after it
IsNextFrom-lower : (test : ℕ → Bool) (i : ℕ) (found : Option ℕ) → test i ≡ false → IsNextFrom test (suc i) found
    → IsNextFrom test i found
IsNextFrom-lower test i None fails none = λ x l. elim (cases_eq x i) [ inl e ↦ ap test e ∙ fails | inr d ↦ none x (omega arith) ]
IsNextFrom-lower test i (Some v) fails first = record {
  reaches = omega (arith, first.reaches);
  passes = first.passes;
  none_before = λ x l less. elim (cases_eq x i) [ inl e ↦ ap test e ∙ fails | inr d ↦ first.none_before x (omega arith) less ];
}

IsNextFrom-here : (test : ℕ → Bool) (i : ℕ) → test i ≡ true → IsNextFrom test i (Some i)
IsNextFrom-here test i h = record { reaches = omega arith; passes = h; none_before = λ x l less. absurd (omega arith) }

-- an entry after a change at i
at_change : {A : Type 0} (xs : List A) (i : ℕ) (u : A) (k : ℕ) (d : A) → i < length xs
    → ((k ≡ i) × (get_or (set xs i u) k d ≡ u)) ⊎ ((k ≢ i) × (get_or (set xs i u) k d ≡ get_or xs k d))
at_change xs i u k d l = elim (cases_eq k i) [
  | inl e ↦ inl (e, ap (λ j. get_or (set xs i u) j d) e ∙ rw get_or-set_same refl)
  | inr other ↦ inr (other, rw get_or-set_other refl)
]

-- the entry of a table
pub entry_of : (place : List (Option ℕ)) (v : ℕ) (entry : Option ℕ) → v < length place → entry ≡ get_or place v entry
    → get_or place v None ≡ entry
entry_of place v entry l read = get_or_default place v None entry l ∙ sym read

-- ---- the places of each vertex, from the last place to the first

pub ArePlaces-more : (list : List ℕ) (first next : List (Option ℕ)) (i j v : ℕ) → i ≡ suc j → j < length list → v ≡ get_or list j 0
    → v < length first
    → ArePlaces list i first next → ArePlaces list j (set first v (Some j)) (set next j (get_or first v None))
ArePlaces-more list first next i j v after inside item small p =
    let long = p.long in
    record {
      first_is = λ w l. elim (at_change first v (Some j) w None small) [
        | inl a ↦ subst (IsNextFrom (stands_at list w) j) (sym a.1)
            (subst (λ z. IsNextFrom (stands_at list z) j (Some j)) (sym (a.0 ∙ item))
            (IsNextFrom-here (stands_at list (get_or list j 0)) j (stands_here list j inside)))
        | inr a ↦ subst (IsNextFrom (stands_at list w) j) (sym a.1) (IsNextFrom-lower (stands_at list w) j (get_or first w None)
            (stands_not list w j (λ e. a.0 (sym e ∙ sym item)))
            (subst (λ z. IsNextFrom (stands_at list w) z (get_or first w None)) after
            (p.first_is w (let same = length-set first v (Some j) in omega arith))))
      ];
      next_is = λ m past l. elim (at_change next j (get_or first v None) m None (omega arith)) [
        | inl a ↦ subst (IsNextFrom (stands_at list (get_or list m 0)) (suc m)) (sym a.1)
            (subst (λ z. IsNextFrom (stands_at list (get_or list z 0)) (suc z) (get_or first v None)) (sym a.0)
            (subst (λ z. IsNextFrom (stands_at list z) (suc j) (get_or first v None)) item
            (subst (λ z. IsNextFrom (stands_at list v) z (get_or first v None)) after (p.first_is v small))))
        | inr a ↦ subst (IsNextFrom (stands_at list (get_or list m 0)) (suc m)) (sym a.1) (p.next_is m (let other = a.0 in omega arith) l)
      ];
      long = length-set next j (get_or first v None) ∙ long;
    }

-- ---- the ends of the members of a set, in its order

-- the same up to place i
pub record AreEndsBefore (ends : ℕ → ℕ × ℕ) (X : List ℕ) (i : ℕ) (firsts seconds : List ℕ) : Type 0 where
  pub firsts_long : length firsts ≡ i
  pub seconds_long : length seconds ≡ i
  pub first : (k : ℕ) → k < i → get_or firsts k 0 ≡ (ends (get_or X k 0)).0
  pub second : (k : ℕ) → k < i → get_or seconds k 0 ≡ (ends (get_or X k 0)).1

-- ---- one more vertex is found

AllBelow-push : (n : ℕ) (xs : List ℕ) (x : ℕ) → x < n → AllBelow n xs → AllBelow n (xs ++ x ∷ [])
AllBelow-push n [] x l b = (l, tt)
AllBelow-push n (y ∷ xs) x l b = (b.0, AllBelow-push n xs x l b.1)

abbrev number_of : Option ℕ → ℕ
number_of None = 0
number_of (Some k) = k

module _ (place : List (Option ℕ)) (order through before : List ℕ) (o : IsOrder place order through before) where
  pub found_before : (v : ℕ) (entry : Option ℕ) → v < length place → entry ≡ get_or place v entry → is_some entry ≡ true
      → is_member v order ≡ true
  found_before v None l read h = absurd (both_ways false refl h)
  found_before v (Some k) l read h = let known = o.known v k l (entry_of place v (Some k) l read) in is_member-get_or order k v known.0 known.1

  pub not_found : (v : ℕ) (entry : Option ℕ) → v < length place → entry ≡ get_or place v entry → is_some entry ≡ false
      → get_or place v None ≡ None
  not_found v None l read h = entry_of place v None l read
  not_found v (Some k) l read h = absurd (both_ways true h refl)

  pub found_place : (v : ℕ) (entry : Option ℕ) → v < length place → entry ≡ get_or place v entry → is_member v order ≡ true
      → (k : ℕ) × (entry ≡ Some k) × (k < length order) × (get_or order k 0 ≡ v)
  found_place v entry l read m =
      let w = place_of_member v order m in
      (w.0, sym (entry_of place v entry l read) ∙ ap (λ z. get_or place z None) (sym w.2) ∙ o.placed w.0 w.1, w.1, w.2)

  pub found_now : (v : ℕ) → is_member v (order ++ v ∷ []) ≡ true
  found_now v = is_member-get_or (order ++ v ∷ []) (length order) v (let long = length-append order (v ∷ []) in omega arith)
      (get_or-append_seam order v [] 0)

  -- and nothing else
  pub only_now : (v u : ℕ) → is_member v (order ++ u ∷ []) ≡ true → (eqb v u || is_member v order) ≡ true
  only_now v u m = elim (or_cases (is_member v order) (is_member v (u ∷ [])) (sym (is_member-append v order (u ∷ [])) ∙ m)) [
    | inl old ↦ or_right (eqb v u) (is_member v order) old
    | inr new ↦ elim (or_cases (eqb v u) false new) [
      | inl same ↦ or_left (eqb v u) (is_member v order) same
      | inr none ↦ absurd (false≢true none)
    ]
  ]

  -- an item after a push
  pushed_at : (xs : List ℕ) (x k : ℕ) → length xs ≡ length order → k < length (order ++ x ∷ [])
      → ((k < length order) × (get_or (xs ++ x ∷ []) k 0 ≡ get_or xs k 0)) ⊎ ((k ≡ length order) × (get_or (xs ++ x ∷ []) k 0 ≡ x))
  pushed_at xs x k long l = elim (cases_lt k (length order)) [
    | inl less ↦ inl (less, get_or_append_left xs (x ∷ []) 0 k (omega arith))
    | inr le ↦ (let all = length-append order (x ∷ []) in
        let here : k ≡ length order = omega arith in
        inr (here, ap (λ j. get_or (xs ++ x ∷ []) j 0) (here ∙ sym long) ∙ get_or-append_seam xs x [] 0))
  ]

  module _ (u e at : ℕ) (small : u < length place) (fresh : get_or place u None ≡ None) (inside : at ≤ length order) where
    placed_more : (k : ℕ) → k < length (order ++ u ∷ [])
        → get_or (set place u (Some (length order))) (get_or (order ++ u ∷ []) k 0) None ≡ Some k
    placed_more k l = elim (pushed_at order u k refl l) [
      | inl a ↦ ap (λ v. get_or (set place u (Some (length order))) v None) a.1 ∙ elim
          (at_change place u (Some (length order)) (get_or order k 0) None small) [
            | inl b ↦ absurd (none (sym fresh ∙ ap (λ v. get_or place v None) (sym b.0) ∙ o.placed k a.0))
            | inr b ↦ b.1 ∙ o.placed k a.0
          ]
      | inr a ↦ ap (λ v. get_or (set place u (Some (length order))) v None) a.1 ∙ rw get_or-set_same (ap Some (sym a.0))
    ]
      where
        none : {k : ℕ} → None ≡ Some k → ⊥
        none {k} h = both_ways (is_some (Some k)) (ap is_some (sym h)) refl

    known_more : (v k : ℕ) → v < length place → get_or (set place u (Some (length order))) v None ≡ Some k
        → (k < length (order ++ u ∷ [])) × (get_or (order ++ u ∷ []) k 0 ≡ v)
    known_more v k l h = elim (at_change place u (Some (length order)) v None small) [
      | inl a ↦ (let here : k ≡ length order = sym (ap number_of (sym a.1 ∙ h)) in (
        omega (arith, here, length-append order (u ∷ [])),
        ap (λ j. get_or (order ++ u ∷ []) j 0) here ∙ get_or-append_seam order u [] 0
            ∙ sym a.0,
      ))
      | inr a ↦ (let known = o.known v k l (sym a.1 ∙ h) in
          let first = known.0 in
          (omega (arith, length-append order (u ∷ [])), get_or_append_left order (u ∷ []) 0 k first ∙ known.1))
    ]

    IsOrder-more : IsOrder (set place u (Some (length order))) (order ++ u ∷ []) (through ++ e ∷ []) (before ++ at ∷ [])
    IsOrder-more = record {
      below = subst (λ n. AllBelow n (order ++ u ∷ [])) (sym (length-set place u (Some (length order))))
          (AllBelow-push (length place) order u small o.below);
      placed = placed_more;
      known = λ v k l. known_more v k (let same = length-set place u (Some (length order)) in omega arith);
      through_long = let long = o.through_long in let a = length-append through (e ∷ []) in let b = length-append order (u ∷ []) in omega arith;
      before_long = let long = o.before_long in let a = length-append before (at ∷ []) in let b = length-append order (u ∷ []) in omega arith;
      earlier = λ k l. elim (cases_lt k (length order)) [
        | inl less ↦ (let h = get_or_append_left before (at ∷ []) 0 k
            (let long = o.before_long in omega arith) in let was = o.earlier k less in omega arith)
        | inr le ↦ (let all = length-append order (u ∷ []) in
            let here : k ≡ length before = (let long = o.before_long in omega arith) in
            let h = ap (λ j. get_or (before ++ at ∷ []) j 0) here ∙ get_or-append_seam before at [] 0 in
            omega (arith, o.before_long))
      ];
    }

    pub IsOrder-last : (k : ℕ) → k ≡ length order
        → IsOrder (set place u (Some k)) (order ++ u ∷ []) (through ++ e ∷ []) (before ++ at ∷ [])
    IsOrder-last k same = subst (λ j. IsOrder (set place u (Some j)) (order ++ u ∷ []) (through ++ e ∷ []) (before ++ at ∷ []))
        (sym same) IsOrder-more

    pub IsTree-more : (ends : ℕ → ℕ × ℕ) (X : List ℕ) → IsFindable ends X order u e at → IsTree ends X order through before
        → IsTree ends X (order ++ u ∷ []) (through ++ e ∷ []) (before ++ at ∷ [])
    IsTree-more ends X f t = record {
      member = λ k l down. elim (cases_lt k (length order)) [
        | inl less ↦ ap (λ z. is_member z X) (kept through e k o.through_long less)
            ∙ t.member k less (let same = kept before at k o.before_long less in omega arith)
        | inr le ↦ ap (λ z. is_member z X) (last through e k o.through_long le l) ∙ f.member (let same = last before at k o.before_long le l in
            let a = length-append order (u ∷ []) in omega arith)
      ];
      joined = λ k l down. elim (cases_lt k (length order)) [
        | inl less ↦ (let same = kept before at k o.before_long less in
            let was : get_or before k 0 < k = omega arith in
            joined_at (kept through e k o.through_long less) (kept order u k refl less)
            (ap (λ j. get_or (order ++ u ∷ []) j 0) same ∙ kept order u (get_or before k 0) refl (omega arith)) (t.joined k less was))
        | inr le ↦ (let same = last before at k o.before_long le l in
            let a = length-append order (u ∷ []) in
            let early : at < length order = omega arith in
            joined_at (last through e k o.through_long le l) (last order u k refl le l)
            (ap (λ j. get_or (order ++ u ∷ []) j 0) same ∙ kept order u at refl early) (f.joined early))
      ];
      apart = λ k l own j less. elim (cases_lt k (length order)) [
        | inl small ↦ (let same = kept before at k o.before_long small in
            differ_at (kept order u j refl (omega arith)) (kept order u k refl small) (t.apart k small (omega arith) j less))
        | inr le ↦ (let same = last before at k o.before_long le l in
            let a = length-append order (u ∷ []) in
            differ_at (kept order u j refl (omega arith)) (last order u k refl le l) (f.apart (omega arith) out j (omega arith)))
      ];
    }
      where
        out : is_member u order ≡ false
        out = false_from_ne_true _ (λ m. (let w = place_of_member u order m in
            both_ways (is_some (get_or place u None)) (ap is_some fresh)
            (ap is_some (ap (λ v. get_or place v None) (sym w.2) ∙ o.placed w.0 w.1))))

        kept : (xs : List ℕ) (x k : ℕ) → length xs ≡ length order → k < length order → get_or (xs ++ x ∷ []) k 0 ≡ get_or xs k 0
        kept xs x k long l = get_or_append_left xs (x ∷ []) 0 k (omega arith)

        differ_at : {v w x y : ℕ} → v ≡ x → w ≡ y → least_merged ends X x ≢ least_merged ends X y
            → least_merged ends X v ≢ least_merged ends X w
        differ_at {v} {w} {x} {y} a b d = λ same. d (ap (least_merged ends X) (sym a) ∙ same ∙ ap (least_merged ends X) b)

        last : (xs : List ℕ) (x k : ℕ) → length xs ≡ length order → length order ≤ k → k < length (order ++ u ∷ [])
            → get_or (xs ++ x ∷ []) k 0 ≡ x
        last xs x k long le l =
            let all = length-append order (u ∷ []) in
            let here : k ≡ length xs = omega arith in
            ap (λ j. get_or (xs ++ x ∷ []) j 0) here ∙ get_or-append_seam xs x [] 0

        joined_at : {f g v x w y : ℕ} → f ≡ g → v ≡ x → w ≡ y → Joins ends g x y → Joins ends f v w
        joined_at {f} {g} {v} {x} {w} {y} a b c j = subst (λ z. Joins ends z v w) (sym a)
            (subst (λ z. Joins ends g z w) (sym b) (subst (Joins ends g x) (sym c) j))
