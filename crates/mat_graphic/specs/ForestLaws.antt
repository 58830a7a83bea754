-- The test of forests holds exactly of forests, and the forests of a graph are the independent sets of a matroid
-- (Schrijver, chapter 39).
-- Idea of the augmentation: each edge of a forest takes from one more vertex that it is the least of its component. If each edge of J
-- has its ends in one component of I, then a vertex from which J reaches a lower one is one from which I does, so |J| is at most |I|.
use Rattle.std.proofs.Common.{◌≡◌, ℕ, suc, ◌≤◌, ◌<◌, ◌≢◌, min, max, true, false, cond, not, ◌||◌, eqb, List, [], ◌∷◌, length, ◌⊎◌, inl, inr, refl, sym, ap, ◌∙◌, subst, arith}
use Rattle.std.proofs.lemmas.Bool.{cases_Bool, cases_eq, cases_lt, eqb-true, eqb-false, eq-eqb, ne_eqb, or_cases, or_right, and_parts, and_from, false≢true, both_ways, not-true, not-false, false_from_ne_true}
use Rattle.std.proofs.lemmas.Bool.Decides.{nat_tests}
use Rattle.mat_sets.specs.Sets.{is_member, IsRising, RisesFrom, IsSubset, AreDistinct, with_one}
use Rattle.mat_sets.specs.SetTests.{is_set}
use Rattle.mat_sets.specs.Graphs.{Joins, Walk}
use Rattle.mat_sets.proofs.Members.{IsRising-nil, RisesFrom-weaken, IsRising-with_one, is_member-head, is_member-with_one, missing_below}
use Rattle.mat_sets.proofs.Cardinalities.{length-with_one}
use Rattle.mat_sets.proofs.Subsets.{find_member, length-subset}
use Rattle.mat_sets.proofs.Ground.{AllBelow-member, AllBelow-subset}
use Rattle.mat_sets.proofs.SetTests.{IsSet-from_test, is_set-true, is_set-with_one}
use Rattle.mat_sets.proofs.Truths.{eqb-turned}
use Rattle.mat_laws.specs.Matroids.{IsMatroid}
use Rattle.mat_graphic.specs.Forests.{IsForest, some_distinct_list, is_closed_walk, is_forest, is_graphic}
use Rattle.mat_graphic.specs.Mergings.{merged, least_merged}
use Rattle.mat_graphic.specs.SearchLaws.{some_distinct_list-gives, some_distinct_list-from, closed-from_Walk, Walk-from_closed}
use Rattle.mat_graphic.specs.TrailSearches.{Trail}
use Rattle.mat_graphic.specs.ComponentLaws.{IsWithin, in_tail, merged_cases, merged-same, least_merged-le, least_merged-fixed, member_within, joins_same, walk_same, trail_of_same}

-- ---- the vertices from which a lower one is reached

-- the vertices from which members of X reach a lower one
unfoldable pub reaching_lower : (ℕ → ℕ × ℕ) → List ℕ → List ℕ
reaching_lower ends [] = []
reaching_lower ends (e ∷ X) =
    cond (eqb (least_merged ends X (ends e).0) (least_merged ends X (ends e).1)) (reaching_lower ends X)
    (with_one (reaching_lower ends X) (max (least_merged ends X (ends e).0) (least_merged ends X (ends e).1)))

-- the higher of p and q is no longer least in its component; any other vertex is so as before
merged_lower : (p q r z : ℕ) → p ≢ q → (z ≡ p → r ≡ z) → (z ≡ q → r ≡ z)
    → (eqb z (max p q) || not (eqb r z)) ≡ not (eqb (merged p q r) z)
merged_lower p q r z d hp hq = elim (cases_eq z (max p q)) [
  | inl e ↦ rw (eq-eqb z (max p q) e, ne_eqb (merged p q r) z (λ m. high e m)) refl
  | inr o ↦ rw (ne_eqb z (max p q) o) (same o)
]
  where
    high : z ≡ max p q → merged p q r ≡ z → ⊥
    high e m = elim (cases_lt p q) [
      | inl l ↦ (let own : r ≡ z = hq (omega arith) in elim (merged_cases p q r) [ inl c ↦ omega (arith, c.1) | inr c ↦ c.1 (omega arith) ])
      | inr l ↦ (let own : r ≡ z = hp (omega arith) in elim (merged_cases p q r)
          [ inl c ↦ d (omega (arith, c.1)) | inr c ↦ c.0 (omega arith) ])
    ]

    same : z ≢ max p q → not (eqb r z) ≡ not (eqb (merged p q r) z)
    same o = elim (merged_cases p q r) [
      | inr c ↦ ap (λ k. not (eqb k z)) (sym c.2)
      | inl c ↦ elim (cases_eq r z) [
        | inl e ↦ ap (λ k. not (eqb k z)) (low c.0 e ∙ sym c.1)
        | inr n ↦ ap not (ne_eqb r z n ∙ sym (ne_eqb (merged p q r) z (λ m. n (back (sym c.1 ∙ m) o))))
      ]
    ]
      where
        low : (r ≡ p) ⊎ (r ≡ q) → r ≡ z → r ≡ min p q
        low a e = elim (cases_lt p q) [
          | inl l ↦ elim a [ inl f ↦ omega arith | inr f ↦ absurd (o (omega arith)) ]
          | inr l ↦ elim a [ inl f ↦ absurd (o (omega arith)) | inr f ↦ omega arith ]
        ]

        back : min p q ≡ z → z ≢ max p q → r ≡ z
        back e n = elim (cases_lt p q) [ inl l ↦ hp (omega arith) | inr l ↦ hq (omega arith) ]

pub IsSubset-tail : (e : ℕ) (X : List ℕ) → IsSubset X (e ∷ X)
IsSubset-tail e X = record { inside = λ z m. or_right (eqb z e) (is_member z X) m }

module _ (ends : ℕ → ℕ × ℕ) where
  -- ---- forests

  -- a walk that uses e once, whose other edges lie within components of X, and which ends in the component where it begins: so does e
  pub crossed_once : (X : List ℕ) (e : ℕ) (edges : List ℕ) (v w : ℕ) → AreDistinct edges → is_member e edges ≡ true
      → ((f : ℕ) → is_member f edges ≡ true → eqb f e ≡ false → IsWithin ends X f) → Walk ends edges v w
      → least_merged ends X v ≡ least_merged ends X w → IsWithin ends X e
  crossed_once X e [] v w d m h k same = absurd (false≢true m)
  crossed_once X e (f ∷ edges) v w d m h k same = elim (cases_Bool (eqb e f)) [
    | inl q ↦ (let r = eqb-true e f q in
        let rest : least_merged ends X k.0 ≡ least_merged ends X w =
        walk_same ends X edges k.0 w (λ g n. h g (or_right (eqb g f) (is_member g edges) n) (other g f e edges d.0 n r)) k.2 in
        subst (IsWithin ends X) (sym r) (turned (same ∙ sym rest) k.1))
    | inr q ↦ crossed_once X e edges k.0 w d.1 (in_tail e f edges m q) (λ g n. h g (or_right (eqb g f) (is_member g edges) n)) k.2
        (sym (joins_same ends X f v k.0 (h f (is_member-head f edges) (eqb-turned f e ∙ q)) k.1) ∙ same)
  ]
    where
      other : (g f e : ℕ) (edges : List ℕ) → is_member f edges ≡ false → is_member g edges ≡ true → e ≡ f → eqb g e ≡ false
      other g f e edges a b r = ne_eqb g e (λ q. both_ways _ a (ap (λ z. is_member z edges) (sym (q ∙ r)) ∙ b))

      turned : {v u : ℕ} → least_merged ends X v ≡ least_merged ends X u → Joins ends f v u → IsWithin ends X f
      turned h j = elim j [
        | inl a ↦ ap (least_merged ends X) a.0 ∙ h ∙ sym (ap (least_merged ends X) a.1)
        | inr a ↦ ap (least_merged ends X) a.0 ∙ sym h ∙ sym (ap (least_merged ends X) a.1)
      ]

  -- a forest stays one with an edge between two of its components
  pub IsForest-more : (X : List ℕ) (e : ℕ) (Y : List ℕ) → IsForest ends X
      → least_merged ends X (ends e).0 ≢ least_merged ends X (ends e).1
      → ((z : ℕ) → is_member z Y ≡ true → eqb z e ≡ false → is_member z X ≡ true) → IsForest ends Y
  IsForest-more X e Y forest apart others = record {
    never_closed = λ g edges v w d inside k q. elim (cases_Bool (is_member e (g ∷ edges))) [
      | inl m ↦ absurd (apart (crossed_once X e (g ∷ edges) v w d m (λ h n o. member_within ends X h (others h (inside.inside h n) o)) k
          (ap (least_merged ends X) q)))
      | inr m ↦ forest.never_closed g edges v w d
          (record {
            inside = λ z n. others z (inside.inside z n) (ne_eqb z e
                (λ r. both_ways _ m (ap (λ x. is_member x (g ∷ edges)) (sym r) ∙ n)));
          }) k q
    ];
  }

  pub IsForest-none : IsForest ends []
  IsForest-none = record { never_closed = λ e edges v w d inside k. absurd (false≢true (inside.inside e (is_member-head e edges))) }

  pub IsForest-subset : (X Y : List ℕ) → IsSubset X Y → IsForest ends Y → IsForest ends X
  IsForest-subset X Y s forest = record {
    never_closed = λ e edges v w d inside k. forest.never_closed e edges v w d
        (record { inside = λ z m. s.inside z (inside.inside z m) }) k;
  }

  -- an edge whose ends are joined by a trail closes a walk
  pub never_joined : (X Y : List ℕ) (e : ℕ) → IsForest ends Y → is_member e X ≡ false → is_member e Y ≡ true → IsSubset X Y
      → Trail ends X (ends e).1 (ends e).0 → ⊥
  never_joined X Y e forest out here s P =
      forest.never_closed e P.edges (ends e).0 (ends e).0 (false_from_ne_true _ (λ m. both_ways _ out (P.inside.inside e m)), P.distinct)
      (record {
        inside = λ z m. elim (or_cases (eqb z e) (is_member z P.edges) m)
            [ inl k ↦ ap (λ x. is_member x Y) (eqb-true z e k) ∙ here | inr k ↦ s.inside z (P.inside.inside z k) ];
      })
      ((ends e).1, inl (refl, refl), P.walk) refl

  -- so the ends of an edge outside a set with which it is a forest are in two components
  pub apart_of_forest : (X : List ℕ) (e : ℕ) → IsRising X → is_member e X ≡ false → IsForest ends (e ∷ X)
      → least_merged ends X (ends e).0 ≢ least_merged ends X (ends e).1
  apart_of_forest X e r out forest same =
      never_joined X (e ∷ X) e forest out (is_member-head e X) (IsSubset-tail e X) (trail_of_same ends X (ends e).1 (ends e).0 r (sym same))

  -- ---- the test and its sentence

  -- what passes the test is a forest
  pub IsForest-from_test : (X : List ℕ) → IsRising X → is_forest ends X ≡ true → IsForest ends X
  unfolding is_forest
  IsForest-from_test X r h = record {
    never_closed = λ e edges v w d inside k q. both_ways _ (not-true _ h)
        (some_distinct_list-from X (e ∷ edges) (is_closed_walk ends) r d inside
        (closed-from_Walk ends e edges v (subst (Walk ends (e ∷ edges) v) (sym q) k)));
  }

  -- a forest passes the test
  pub test_from-IsForest : (X : List ℕ) → IsForest ends X → is_forest ends X ≡ true
  unfolding is_forest
  test_from-IsForest X forest = elim (cases_Bool (some_distinct_list X (is_closed_walk ends))) [
    | inl h ↦ (let found = some_distinct_list-gives X (is_closed_walk ends) h in absurd (never found.0 found.1 found.2 found.3))
    | inr h ↦ ap not h
  ]
    where
      never : (edges : List ℕ) → AreDistinct edges → IsSubset edges X → is_closed_walk ends edges ≡ true → ⊥
      never [] d inside h = false≢true h
      never (e ∷ edges) d inside h = let k = Walk-from_closed ends e edges h in forest.never_closed e edges k.0 k.0 d inside k.1 refl

  -- ---- how many edges a forest has

  own : (X : List ℕ) (c z : ℕ) → z ≡ least_merged ends X c → least_merged ends X z ≡ z
  own X c z e = ap (least_merged ends X) e ∙ least_merged-fixed ends X c ∙ sym e

  pub is_member-reaching_lower : (X : List ℕ) (z : ℕ) → is_member z (reaching_lower ends X) ≡ not (eqb (least_merged ends X z) z)
  unfolding least_merged reaching_lower
  is_member-reaching_lower [] z = sym (ap not (eq-eqb z z refl))
  is_member-reaching_lower (e ∷ X) z =
      let p = least_merged ends X (ends e).0 in
      let q = least_merged ends X (ends e).1 in
      let r = least_merged ends X z in
      elim (cases_eq p q) [
        | inl s ↦ rw (eq-eqb p q s) (is_member-reaching_lower X z ∙ ap (λ k. not (eqb k z))
            (sym (ap (λ k. merged p k r) (sym s) ∙ merged-same p r)))
        | inr d ↦ rw (ne_eqb p q d) (is_member-with_one z (max p q) (reaching_lower ends X) ∙ ap (λ b. eqb z (max p q) || b)
            (is_member-reaching_lower X z)
            ∙ merged_lower p q r z d (own X (ends e).0 z) (own X (ends e).1 z))
      ]

  pub IsRising-reaching_lower : (X : List ℕ) → IsRising (reaching_lower ends X)
  unfolding reaching_lower
  IsRising-reaching_lower [] = IsRising-nil
  IsRising-reaching_lower (e ∷ X) =
      let p = least_merged ends X (ends e).0 in
      let q = least_merged ends X (ends e).1 in
      elim (cases_Bool (eqb p q)) [
        | inl s ↦ rw s (IsRising-reaching_lower X)
        | inr s ↦ rw s
            (IsRising-with_one (reaching_lower ends X) (max p q) (IsRising-reaching_lower X))
      ]

  length-reaching_lower_from : (lo : ℕ) (X : List ℕ) → RisesFrom lo X → IsForest ends X → length (reaching_lower ends X) ≡ length X
  unfolding reaching_lower
  length-reaching_lower_from lo [] r forest = refl
  length-reaching_lower_from lo (e ∷ X) r forest =
      let p = least_merged ends X (ends e).0 in
      let q = least_merged ends X (ends e).1 in
      let rising : IsRising X = record { rises = RisesFrom-weaken 0 (suc e) X (omega arith) r.1 } in
      let apart : p ≢ q = apart_of_forest X e rising (missing_below e (suc e) X (omega arith) r.1) forest in
      let rest = length-reaching_lower_from (suc e) X r.1 (IsForest-subset X (e ∷ X) (IsSubset-tail e X) forest) in
      let least : least_merged ends X (max p q) ≡ max p q = elim (cases_lt p q) [
        | inl l ↦ own X (ends e).1 (max p q) (omega arith)
        | inr l ↦ own X (ends e).0 (max p q) (omega arith)
      ] in
      let new = length-with_one (reaching_lower ends X) (max p q) (IsRising-reaching_lower X)
      (is_member-reaching_lower X (max p q) ∙ ap not (eq-eqb _ _ least)) in
      rw (ne_eqb p q apart) (omega (arith, new, rest))

  -- a forest has as many edges as there are vertices from which it reaches a lower one
  pub length-reaching_lower : (X : List ℕ) → IsRising X → IsForest ends X → length (reaching_lower ends X) ≡ length X
  length-reaching_lower X r forest = length-reaching_lower_from 0 X r.rises forest

  -- where each edge of J lies within a component of I, J has no more edges than I
  pub length-spanned : (I J : List ℕ) → IsRising I → IsRising J → IsForest ends I → IsForest ends J
      → ((e : ℕ) → is_member e J ≡ true → IsWithin ends I e) → length J ≤ length I
  length-spanned I J s r i j h =
      let lower : IsSubset (reaching_lower ends J) (reaching_lower ends I) = record {
        inside = λ z m. is_member-reaching_lower I z ∙ ap not (ne_eqb _ _ (λ least.
            let P = trail_of_same ends J z (least_merged ends J z) r (sym (least_merged-fixed ends J z)) in
            let same = walk_same ends I P.edges z (least_merged ends J z) (λ f n. h f (P.inside.inside f n)) P.walk in
            let differ : least_merged ends J z ≢ z = eqb-false _ _ (not-true _ (sym (is_member-reaching_lower J z) ∙ m)) in
            differ (omega (arith, least_merged-le ends I (least_merged ends J z), least_merged-le ends J z))));
      } in
      omega (
        arith,
        length-subset _ _ (IsRising-reaching_lower J)
            (IsRising-reaching_lower I) lower,
        length-reaching_lower I s i,
        length-reaching_lower J r j,
      )

-- ---- the laws of a matroid

pub in_with_one : (e : ℕ) (I : List ℕ) (z : ℕ) → is_member z (with_one I e) ≡ true → eqb z e ≡ false → is_member z I ≡ true
in_with_one e I z h k = let a = is_member-with_one z e I in grind (arith, nat_tests)

-- one more edge between two components of a forest
pub is_graphic-with_one : (n : ℕ) (ends : ℕ → ℕ × ℕ) (I : List ℕ) (e : ℕ) → e < n → is_graphic n ends I ≡ true
    → least_merged ends I (ends e).0 ≢ least_merged ends I (ends e).1 → is_graphic n ends (with_one I e) ≡ true
is_graphic-with_one n ends I e small passes apart =
    let tests = and_parts (is_set n I) (is_forest ends I) passes in
    let set = IsSet-from_test n I tests.0 in
    and_from (is_set n (with_one I e)) (is_forest ends (with_one I e)) (is_set-with_one n I e set small)
    (test_from-IsForest ends (with_one I e)
    (IsForest-more ends I e (with_one I e) (IsForest-from_test ends I set.rising tests.1) apart (in_with_one e I)))

-- an edge of J between two components of I, or none
crossing_or : (ends : ℕ → ℕ × ℕ) (I J : List ℕ)
    → ((e : ℕ) × (is_member e J ≡ true) × (least_merged ends I (ends e).0 ≢ least_merged ends I (ends e).1)) ⊎
    ((e : ℕ) → is_member e J ≡ true → IsWithin ends I e)
crossing_or ends I J = elim (find_member (λ e. not (eqb (least_merged ends I (ends e).0) (least_merged ends I (ends e).1))) J) [
  | inl found ↦ inl (found.0, found.1, eqb-false _ _ (not-true _ found.2))
  | inr none ↦ inr (λ e m. eqb-true _ _ (not-false _ (none e m)))
]

pub graphic_laws : (n : ℕ) (ends : ℕ → ℕ × ℕ) → IsMatroid n (is_graphic n ends)
graphic_laws n ends = record {
  empty = and_from (is_set n []) (is_forest ends []) (is_set-true n [] IsRising-nil tt) (test_from-IsForest ends []
      (IsForest-none ends));
  subsets = λ I J rising inside passes.
      let tests = and_parts (is_set n J) (is_forest ends J) passes in
      let set = IsSet-from_test n J tests.0 in
      and_from (is_set n I) (is_forest ends I) (is_set-true n I rising (AllBelow-subset n I J inside set.below))
      (test_from-IsForest ends I (IsForest-subset ends I J inside (IsForest-from_test ends J set.rising tests.1)));
  augmentation = λ I J passes others less.
      let first = and_parts (is_set n I) (is_forest ends I) passes in
      let second = and_parts (is_set n J) (is_forest ends J) others in
      let set = IsSet-from_test n I first.0 in
      let other = IsSet-from_test n J second.0 in
      elim (crossing_or ends I J) [
        | inl found ↦ record {
          element = found.0;
          inside = found.1;
          outside = false_from_ne_true _ (λ m. found.2 (member_within ends I found.0 m));
          augmented = is_graphic-with_one n ends I found.0 (AllBelow-member n J found.0 other.below found.1) passes found.2;
        }
        | inr all ↦ absurd (omega (
          arith,
          length-spanned ends I J set.rising other.rising
              (IsForest-from_test ends I set.rising first.1) (IsForest-from_test ends J other.rising second.1) all,
        ))
      ];
  sets = λ I passes. IsSet-from_test n I (and_parts (is_set n I) (is_forest ends I) passes).0;
}
