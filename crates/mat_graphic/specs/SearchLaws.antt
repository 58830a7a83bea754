-- The searches and the tests of walks hold exactly where the sentences do: a list of different members of a set that passes is found, as it
-- has at most as many items as the set.
use Rattle.std.proofs.Common.{◌≡◌, ℕ, zero, suc, Bool, true, ◌&&◌, eqb, List, [], ◌∷◌, length, inl, inr, refl, sym, ap, ◌∙◌, subst, arith}
use Rattle.std.proofs.lemmas.Bool.{eqb-true, eq-eqb, or_cases, or_left, or_right, and_parts, and_from, false≢true}
use Rattle.mat_sets.specs.Sets.{is_member, IsRising, IsSubset, AreDistinct}
use Rattle.mat_sets.specs.Graphs.{Walk}
use Rattle.mat_sets.proofs.Members.{is_member-head}
use Rattle.mat_sets.proofs.Ground.{length-distinct_subset}
use Rattle.mat_sets.proofs.Search.{some_below_gives, some_below_from}
use Rattle.mat_graphic.specs.Forests.{some_member, some_list_of, some_distinct_list, is_walk, is_closed_walk}
use Rattle.mat_sets.specs.SetTests.{are_distinct}
use Rattle.mat_sets.proofs.SetTests.{are_distinct-from, are_distinct-gives}

-- ---- lists of members

some_member-gives : (X : List ℕ) (test : ℕ → Bool) → some_member X test ≡ true
    → (x : ℕ) × (is_member x X ≡ true) × (test x ≡ true)
some_member-gives [] test h = absurd (false≢true h)
some_member-gives (x ∷ X) test h = elim (or_cases (test x) (some_member X test) h) [
  | inl a ↦ (x, is_member-head x X, a)
  | inr b ↦ (let w = some_member-gives X test b in (w.0, or_right (eqb w.0 x) (is_member w.0 X) w.1, w.2))
]

some_member-from : (X : List ℕ) (x : ℕ) (test : ℕ → Bool) → is_member x X ≡ true → test x ≡ true → some_member X test ≡ true
some_member-from [] x test m h = absurd (false≢true m)
some_member-from (y ∷ X) x test m h = elim (or_cases (eqb x y) (is_member x X) m) [
  | inl e ↦ or_left (test y) (some_member X test) (ap test (sym (eqb-true x y e)) ∙ h)
  | inr k ↦ or_right (test y) (some_member X test) (some_member-from X x test k h)
]

-- what begins with a member and goes on with members
IsSubset-cons : (x : ℕ) (xs X : List ℕ) → is_member x X ≡ true → IsSubset xs X → IsSubset (x ∷ xs) X
IsSubset-cons x xs X m s = record {
  inside = λ z k. elim (or_cases (eqb z x) (is_member z xs) k) [
    | inl e ↦ ap (λ y. is_member y X) (eqb-true z x e) ∙ m
    | inr n ↦ s.inside z n
  ];
}

some_list_of-gives : (k : ℕ) (X : List ℕ) (test : List ℕ → Bool) → some_list_of k X test ≡ true
    → (xs : List ℕ) × IsSubset xs X × (test xs ≡ true)
unfolding some_list_of
some_list_of-gives zero X test h = ([], record { inside = λ z k. absurd (false≢true k) }, h)
some_list_of-gives (suc k) X test h =
    let a = some_member-gives X (λ x. some_list_of k X (λ xs. test (x ∷ xs))) h in
    let b = some_list_of-gives k X (λ xs. test (a.0 ∷ xs)) a.2 in
    (a.0 ∷ b.0, IsSubset-cons a.0 b.0 X a.1 b.1, b.2)

some_list_of-from : (X xs : List ℕ) (test : List ℕ → Bool) → IsSubset xs X → test xs ≡ true → some_list_of (length xs) X test ≡ true
unfolding some_list_of
some_list_of-from X [] test s h = h
some_list_of-from X (x ∷ xs) test s h =
    some_member-from X x (λ y. some_list_of (length xs) X (λ ys. test (y ∷ ys))) (s.inside x (is_member-head x xs))
    (some_list_of-from X xs (λ ys. test (x ∷ ys)) (record { inside = λ z k. s.inside z (or_right (eqb z x) (is_member z xs) k) }) h)

pub some_distinct_list-gives : (X : List ℕ) (test : List ℕ → Bool) → some_distinct_list X test ≡ true
    → (xs : List ℕ) × AreDistinct xs × IsSubset xs X × (test xs ≡ true)
unfolding some_distinct_list
some_distinct_list-gives X test h =
    let both = λ (xs : List ℕ). are_distinct xs && test xs in
    let a = some_below_gives (suc (length X)) (λ k. some_list_of k X both) h in
    let b = some_list_of-gives a.0 X both a.2 in
    let parts = and_parts (are_distinct b.0) (test b.0) b.2 in
    (b.0, are_distinct-gives b.0 parts.0, b.1, parts.1)

pub some_distinct_list-from : (X xs : List ℕ) (test : List ℕ → Bool) → IsRising X → AreDistinct xs → IsSubset xs X → test xs ≡ true
    → some_distinct_list X test ≡ true
unfolding some_distinct_list
some_distinct_list-from X xs test r d s h =
    let both = λ (ys : List ℕ). are_distinct ys && test ys in
    let most = length-distinct_subset xs X d r s in
    some_below_from (suc (length X)) (length xs) (λ k. some_list_of k X both) (omega arith)
    (some_list_of-from X xs both s (and_from (are_distinct xs) (test xs) (are_distinct-from xs d) h))

-- ---- walks

module _ (ends : ℕ → ℕ × ℕ) where
  pub Walk-from_test : (edges : List ℕ) (v w : ℕ) → is_walk ends edges v w ≡ true → Walk ends edges v w
  Walk-from_test [] v w h = eqb-true v w h
  Walk-from_test (e ∷ edges) v w h =
      let first = is_walk ends edges (ends e).1 w in
      let second = is_walk ends edges (ends e).0 w in
      elim (or_cases (eqb (ends e).0 v && first) (eqb (ends e).1 v && second) h) [
        | inl a ↦ (let parts = and_parts (eqb (ends e).0 v) first a in
            ((ends e).1, inl (eqb-true _ _ parts.0, refl), Walk-from_test edges (ends e).1 w parts.1))
        | inr a ↦ (let parts = and_parts (eqb (ends e).1 v) second a in
            ((ends e).0, inr (refl, eqb-true _ _ parts.0), Walk-from_test edges (ends e).0 w parts.1))
      ]

  pub test_from-Walk : (edges : List ℕ) (v w : ℕ) → Walk ends edges v w → is_walk ends edges v w ≡ true
  test_from-Walk [] v w k = eq-eqb v w k
  test_from-Walk (e ∷ edges) v w k =
      let first = is_walk ends edges (ends e).1 w in
      let second = is_walk ends edges (ends e).0 w in
      elim k.1 [
        | inl j ↦ or_left (eqb (ends e).0 v && first) (eqb (ends e).1 v && second) (and_from (eqb (ends e).0 v) first (eq-eqb _ _ j.0)
            (test_from-Walk edges (ends e).1 w (subst (λ u. Walk ends edges u w) (sym j.1) k.2)))
        | inr j ↦ or_right (eqb (ends e).0 v && first) (eqb (ends e).1 v && second) (and_from (eqb (ends e).1 v) second (eq-eqb _ _ j.1)
            (test_from-Walk edges (ends e).0 w (subst (λ u. Walk ends edges u w) (sym j.0) k.2)))
      ]

  -- a walk that ends where it begins begins at an end of its first edge
  pub closed-from_Walk : (e : ℕ) (edges : List ℕ) (v : ℕ) → Walk ends (e ∷ edges) v v → is_closed_walk ends (e ∷ edges) ≡ true
  closed-from_Walk e edges v k =
      let first = is_walk ends (e ∷ edges) (ends e).0 (ends e).0 in
      let second = is_walk ends (e ∷ edges) (ends e).1 (ends e).1 in
      elim k.1 [
        | inl j ↦ or_left first second (test_from-Walk (e ∷ edges) _ _ (subst (λ u. Walk ends (e ∷ edges) u u) (sym j.0) k))
        | inr j ↦ or_right first second (test_from-Walk (e ∷ edges) _ _ (subst (λ u. Walk ends (e ∷ edges) u u) (sym j.1) k))
      ]

  pub Walk-from_closed : (e : ℕ) (edges : List ℕ) → is_closed_walk ends (e ∷ edges) ≡ true → (v : ℕ) × Walk ends (e ∷ edges) v v
  Walk-from_closed e edges h =
      elim (or_cases (is_walk ends (e ∷ edges) (ends e).0 (ends e).0) (is_walk ends (e ∷ edges) (ends e).1 (ends e).1) h) [
        | inl a ↦ ((ends e).0, Walk-from_test (e ∷ edges) _ _ a)
        | inr a ↦ ((ends e).1, Walk-from_test (e ∷ edges) _ _ a)
      ]
