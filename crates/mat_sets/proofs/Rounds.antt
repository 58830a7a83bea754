-- The loops of a round of the search for a shortest walk: the arcs of one vertex, the vertices found last, and the trace back
-- along the vertices before. Each loop keeps what the whole does, for the numbers or vertices that it has passed.
use Rattle.mat_sets.proofs.Common.{Bool, List, [], ap, arith, cond, eqb, false, get_or, inl, inr, length, ltb, not, refl, set, subst, sym, take, true, ℕ, ◌&&◌, ◌++◌, ◌+◌, ◌<◌, ◌||◌, ◌∙◌, ◌∷◌, ◌≡◌, ◌≤◌, ◌⊎◌, and_right, and_parts, both_ways, cases_Bool, cases_eq, eq-eqb, eqb-true, ne_eqb, or_cases}
use Rattle.mat_sets.proofs.Common.{or_left, or_right, nat_tests, get_or-set_other, get_or-set_same, length-set, AreTaken, IsRound, is_next, IsFirstFrom, those_below, all_below, is_member, with_one, without_one}
use Rattle.mat_sets.proofs.ListParts.{is_member-push}
use Rattle.mat_sets.proofs.Members.{IsRising-with_one, is_member-with_one, is_member-without_one, same_members}
use Rattle.mat_sets.proofs.Search.{IsSet-those_below, is_member-those_below}
use Rattle.mat_sets.proofs.Steps.{is_member-take_more}
use Rattle.mat_sets.proofs.Truths.{and_all, or_assoc, or_none}

-- ---- the numbers below n that pass

pub those_below-put : (n : ℕ) (test : ℕ → Bool) → test n ≡ true → with_one (those_below n test) n ≡ those_below (n + 1) test
those_below-put n test t = same_members _ _ (IsRising-with_one _ n (IsSet-those_below n test).rising) (IsSet-those_below (n + 1) test).rising
    (λ k. is_member-with_one k n (those_below n test) ∙ ap (λ b. eqb k n || b) (is_member-those_below k n test)
    ∙ at k (cases_eq k n) ∙ sym (is_member-those_below k (n + 1) test))
  where
    other : (k n : ℕ) (b : Bool) → (k ≡ n → ⊥) → (eqb k n || (ltb k n && b)) ≡ (ltb k (n + 1) && b)
    other k n b d = grind (arith, nat_tests)

    here : (k n : ℕ) (b : Bool) → k ≡ n → b ≡ true → (eqb k n || (ltb k n && b)) ≡ (ltb k (n + 1) && b)
    here k n b d e = grind (arith, nat_tests)

    at : (k : ℕ) → ((k ≡ n) ⊎ (k ≡ n → ⊥)) → (eqb k n || (ltb k n && test k)) ≡ (ltb k (n + 1) && test k)
    at k (inl e) = here k n (test k) e (ap test e ∙ t)
    at k (inr d) = other k n (test k) d

pub starts_skip : (v x : ℕ) (start : ℕ → Bool) → start v ≡ false → (ltb x v && start x) ≡ (ltb x (v + 1) && start x)
starts_skip v x start s = elim (cases_eq x v) [
  | inl q ↦ here x v (start x) (ap start q ∙ s)
  | inr d ↦ other x v (start x) d
]
  where
    here : (x v : ℕ) (b : Bool) → b ≡ false → (ltb x v && b) ≡ (ltb x (v + 1) && b)
    here x v b s = grind (arith, nat_tests)

    other : (x v : ℕ) (b : Bool) → (x ≡ v → ⊥) → (ltb x v && b) ≡ (ltb x (v + 1) && b)
    other x v b d = grind (arith, nat_tests)

pub those_below-skip : (n : ℕ) (test : ℕ → Bool) → test n ≡ false → those_below n test ≡ those_below (n + 1) test
those_below-skip n test t = same_members _ _ (IsSet-those_below n test).rising (IsSet-those_below (n + 1) test).rising
    (λ k. is_member-those_below k n test ∙ starts_skip n k test t ∙ sym (is_member-those_below k (n + 1) test))

pub those_below-more : (n : ℕ) (test : ℕ → Bool) (set set' : List ℕ) → set ≡ those_below n test → set' ≡ cond (test n) (with_one set n) set
    → set' ≡ those_below (n + 1) test
those_below-more n test set set' e f = f ∙ elim (cases_Bool (test n)) [
  | inl a ↦ rw a (ap (λ s. with_one s n) e ∙ those_below-put n test a)
  | inr o ↦ rw o (e ∙ those_below-skip n test o)
]

-- ---- the arcs of one vertex

-- nothing else is taken
others_stay : (m a r : Bool) (x from v : ℕ) → r ≡ (m && not (ltb x from && a)) → from ≤ v → (x ≡ v → ⊥)
    → (from ≤ x → x < v → (r && a) ≡ false) → (m && (ltb x (v + 1) && a)) ≡ (m && (ltb x from && a))
others_stay m a r x from v e h d none = grind (arith, nat_tests)

not_others_stay : (m a r : Bool) (x from v : ℕ) → r ≡ (m && not (ltb x from && a)) → from ≤ v → (x ≡ v → ⊥)
    → (from ≤ x → x < v → (r && a) ≡ false) → (m && not (ltb x (v + 1) && a)) ≡ r
not_others_stay m a r x from v e h d none = grind (arith, nat_tests)

-- v itself is taken
taken_rest : (m a r : Bool) (from v : ℕ) → r ≡ (m && not (ltb v from && a)) → from ≤ v → (r && a) ≡ true
    → false ≡ (m && not (ltb v (v + 1) && a))
taken_rest m a r from v e h p = grind (arith, nat_tests)

taken_more : (f m a r : Bool) (from v : ℕ) → r ≡ (m && not (ltb v from && a)) → from ≤ v → (r && a) ≡ true
    → true ≡ (f || (m && (ltb v (v + 1) && a)))
taken_more f m a r from v e h p = grind (arith, nat_tests)

taken_after : (m a r : Bool) (from v x y : ℕ) → r ≡ (m && not (ltb v from && a)) → from ≤ v → (r && a) ≡ true
    → x ≡ cond (m && (ltb v (v + 1) && a)) x y
taken_after m a r from v x y e h p = grind (arith, nat_tests)

pub AreTaken-more : (test : ℕ → Bool) (u from v : ℕ) (unreached found before rest more after : List ℕ)
    → AreTaken (λ x. ltb x from && test x) u unreached found before rest more after
    → IsFirstFrom (λ x. is_member x rest && test x) from v → v < length after
    → AreTaken (λ x. ltb x (v + 1) && test x) u unreached found before (without_one rest v) (more ++ v ∷ []) (set after v u)
AreTaken-more test u from v unreached found before rest more after t f l =
    let same : (x : ℕ) → (x ≡ v → ⊥) → (is_member x unreached && (ltb x (v + 1) && test x)) ≡ (is_member x unreached && (ltb x from && test x)) =
    λ x d. others_stay (is_member x unreached) (test x) (is_member x rest) x from v (t.rest_is x) f.reaches d (f.none_before x) in
    record {
      rest_is = λ x. elim (cases_eq x v) [
        | inl e ↦ subst (λ z. is_member z (without_one rest v) ≡ (is_member z unreached && not (ltb z (v + 1) && test z))) (sym e)
            (is_member-without_one v v rest ∙ rw (eq-eqb v v refl) (and_right (is_member v rest) false refl
            ∙ taken_rest (is_member v unreached) (test v) (is_member v rest) from v (t.rest_is v) f.reaches f.passes))
        | inr d ↦ is_member-without_one x v rest ∙ rw (ne_eqb x v d) (and_all (is_member x rest)
            ∙ sym (not_others_stay (is_member x unreached) (test x) (is_member x rest) x from v (t.rest_is x) f.reaches d (f.none_before x)))
      ];
      more_is = λ x. elim (cases_eq x v) [
        | inl e ↦ subst (λ z. is_member z (more ++ v ∷ []) ≡ (is_member z found || (is_member z unreached && (ltb z (v + 1) && test z)))) (sym e)
            (is_member-push v v more ∙ or_right (is_member v more) (eqb v v) (eq-eqb v v refl)
            ∙ taken_more (is_member v found) (is_member v unreached) (test v) (is_member v rest) from v (t.rest_is v) f.reaches f.passes)
        | inr d ↦ is_member-push x v more ∙ rw (ne_eqb x v d) (or_none (is_member x more) ∙ t.more_is x
            ∙ ap (λ b. is_member x found || b) (sym (same x d)))
      ];
      after_is = λ x. elim (cases_eq x v) [
        | inl e ↦ subst (λ z. get_or (set after v u) z 0 ≡ cond (is_member z unreached && (ltb z (v + 1) && test z)) u (get_or before z 0)) (sym e)
            (get_or-set_same after v u 0 l ∙ taken_after (is_member v unreached) (test v) (is_member v rest) from v u (get_or before v 0)
            (t.rest_is v) f.reaches f.passes)
        | inr d ↦ get_or-set_other after v x u 0 d ∙ t.after_is x ∙ ap (λ b. cond b u (get_or before x 0)) (sym (same x d))
      ];
      long = length-set after v u ∙ t.long;
    }

-- ---- the vertices found last

is_next-append : (arc : ℕ → ℕ → Bool) (us : List ℕ) (u v : ℕ) → is_next arc (us ++ u ∷ []) v ≡ (is_next arc us v || arc u v)
is_next-append arc [] u v = or_none (arc u v)
is_next-append arc (w ∷ us) u v = ap (λ b. arc w v || b) (is_next-append arc us u v) ∙ or_assoc (arc w v) (is_next arc us v) (arc u v)

-- what is unreached then was unreached before
pub AreTaken-rest : (test : ℕ → Bool) (u : ℕ) (unreached found before rest more after : List ℕ) (v : ℕ)
    → AreTaken test u unreached found before rest more after → is_member v rest ≡ true → is_member v unreached ≡ true
AreTaken-rest test u unreached found before rest more after v t m = (and_parts (is_member v unreached) (not (test v)) (sym (t.rest_is v) ∙ m)).0

pub IsRound-rest : (arc : ℕ → ℕ → Bool) (frontier unreached before rest found after : List ℕ) (v : ℕ)
    → IsRound arc frontier unreached before rest found after → is_member v rest ≡ true → is_member v unreached ≡ true
IsRound-rest arc frontier unreached before rest found after v r m = (and_parts (is_member v unreached) (not (is_next arc frontier v))
    (sym (r.rest_is v) ∙ m)).0

-- a vertex that u brings, and one that it does not
brought : (test : ℕ → Bool) (u : ℕ) (unreached found before rest more after : List ℕ)
    → AreTaken test u unreached found before rest more after → (v : ℕ) → (is_member v unreached && test v) ≡ true
    → (get_or after v 0 ≡ u) × (test v ≡ true)
brought test u unreached found before rest more after t v e = (
  t.after_is v
      ∙ ap (λ b. cond b u (get_or before v 0)) e,
  (and_parts (is_member v unreached) (test v) e).1,
)

passed : (test : ℕ → Bool) (u : ℕ) (unreached found before rest more after : List ℕ)
    → AreTaken test u unreached found before rest more after → (v : ℕ) → (is_member v unreached && test v) ≡ false
    → (get_or after v 0 ≡ get_or before v 0) × (is_member v more ≡ is_member v found)
passed test u unreached found before rest more after t v e =
    (t.after_is v ∙ ap (λ b. cond b u (get_or before v 0)) e, t.more_is v ∙ ap (λ b. is_member v found || b) e ∙ or_none (is_member v found))

pub IsRound-more : (arc : ℕ → ℕ → Bool) (us : List ℕ) (u : ℕ) (unreached before rest found after less more later : List ℕ)
    → IsRound arc us unreached before rest found after → AreTaken (arc u) u rest found after less more later
    → IsRound arc (us ++ u ∷ []) unreached before less more later
IsRound-more arc us u unreached before rest found after less more later r t = record {
  rest_is = λ v. t.rest_is v ∙ rw (is_next-append arc us u v) (rest_more (is_member v unreached) (is_next arc us v) (arc u v) (is_member v rest)
      (r.rest_is v));
  found_is = λ v. t.more_is v ∙ rw (is_next-append arc us u v)
      (found_more (is_member v unreached) (is_next arc us v) (arc u v) (is_member v rest) (is_member v found) (r.rest_is v) (r.found_is v));
  member = λ v h. elim (cases_Bool (is_member v rest && arc u v)) [
    | inl e ↦ (let b = new v e in ap (λ z. is_member z (us ++ u ∷ [])) b.0 ∙ is_member-push u u us
        ∙ or_right (is_member u us) (eqb u u) (eq-eqb u u refl))
    | inr e ↦ (let b = old v e in ap (λ z. is_member z (us ++ u ∷ [])) b.0 ∙ is_member-push (get_or after v 0) u us
        ∙ or_left (is_member (get_or after v 0) us) (eqb (get_or after v 0) u) (r.member v (sym b.1 ∙ h)))
  ];
  arc_from = λ v h. elim (cases_Bool (is_member v rest && arc u v)) [
    | inl e ↦ (let b = new v e in ap (λ z. arc z v) b.0 ∙ b.1)
    | inr e ↦ (let b = old v e in ap (λ z. arc z v) b.0 ∙ r.arc_from v (sym b.1 ∙ h))
  ];
  kept = λ v h. elim (cases_Bool (is_member v rest && arc u v)) [
    | inl e ↦ absurd (both_ways _ h (t.more_is v ∙ or_right (is_member v found) (is_member v rest && arc u v) e))
    | inr e ↦ (let b = old v e in b.0 ∙ r.kept v (sym b.1 ∙ h))
  ];
  long = t.long ∙ r.long;
}
  where
    new : (v : ℕ) → (is_member v rest && arc u v) ≡ true → (get_or later v 0 ≡ u) × (arc u v ≡ true)
    new = brought (arc u) u rest found after less more later t

    old : (v : ℕ) → (is_member v rest && arc u v) ≡ false → (get_or later v 0 ≡ get_or after v 0) × (is_member v more ≡ is_member v found)
    old = passed (arc u) u rest found after less more later t

    rest_more : (m next a r : Bool) → r ≡ (m && not next) → (r && not a) ≡ (m && not (next || a))
    rest_more m next a r e = grind arith

    found_more : (m next a r f : Bool) → r ≡ (m && not next) → f ≡ (m && next) → (f || (r && a)) ≡ (m && (next || a))
    found_more m next a r f e g = grind arith

-- ---- the first item that passes

pub none_more : (xs : List ℕ) (i : ℕ) (test : ℕ → Bool) → i < length xs
    → ((x : ℕ) → is_member x (take i xs) ≡ true → test x ≡ false) → test (get_or xs i 0) ≡ false
    → (x : ℕ) → is_member x (take (i + 1) xs) ≡ true → test x ≡ false
none_more xs i test l none e x m = elim (or_cases (is_member x (take i xs)) (eqb x (get_or xs i 0)) (sym (is_member-take_more xs i x l) ∙ m)) [
  | inl a ↦ none x a
  | inr b ↦ ap test (eqb-true x (get_or xs i 0) b) ∙ e
]

pub those_below-none : (test : ℕ → Bool) → [] ≡ those_below 0 test
unfolding those_below all_below
those_below-none test = refl

-- ---- the starts

pub starts_put : (v x : ℕ) (start : ℕ → Bool) (found : List ℕ) → start v ≡ true
    → is_member x found ≡ (ltb x v && start x) → is_member x (found ++ v ∷ []) ≡ (ltb x (v + 1) && start x)
starts_put v x start found s e = is_member-push x v found ∙ elim (cases_eq x v) [
  | inl q ↦ here x v (is_member x found) (start x) q (ap start q ∙ s)
  | inr d ↦ other x v (is_member x found) (start x) d e
]
  where
    here : (x v : ℕ) (f b : Bool) → x ≡ v → b ≡ true → (f || eqb x v) ≡ (ltb x (v + 1) && b)
    here x v f b q s = grind (arith, nat_tests)

    other : (x v : ℕ) (f b : Bool) → (x ≡ v → ⊥) → f ≡ (ltb x v && b) → (f || eqb x v) ≡ (ltb x (v + 1) && b)
    other x v f b d e = grind (arith, nat_tests)

pub starts_cut : (v x : ℕ) (start : ℕ → Bool) (m : Bool) (rest : List ℕ) → start v ≡ true
    → is_member x rest ≡ (m && not (ltb x v && start x)) → is_member x (without_one rest v) ≡ (m && not (ltb x (v + 1) && start x))
starts_cut v x start m rest s e = is_member-without_one x v rest ∙ elim (cases_eq x v) [
  | inl q ↦ here x v (is_member x rest) m (start x) q (ap start q ∙ s)
  | inr d ↦ other x v (is_member x rest) m (start x) d e
]
  where
    here : (x v : ℕ) (r m b : Bool) → x ≡ v → b ≡ true → (r && not (eqb x v)) ≡ (m && not (ltb x (v + 1) && b))
    here x v r m b q s = grind (arith, nat_tests)

    other : (x v : ℕ) (r m b : Bool) → (x ≡ v → ⊥) → r ≡ (m && not (ltb x v && b)) → (r && not (eqb x v)) ≡ (m && not (ltb x (v + 1) && b))
    other x v r m b d e = grind (arith, nat_tests)
