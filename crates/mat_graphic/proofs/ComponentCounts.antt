-- The least vertex that a look through the walks finds is the one by merging, as a trail joins two vertices where that is the same.
-- The rank of a set of edges and the number of its components add up to the number of vertices. A largest forest in the set has the same
-- components, and it has as many edges as there are vertices from which it reaches a lower one; from all others none is reached.
use Rattle.mat_graphic.proofs.Common.{◌≡◌, ℕ, suc, get_or, ◌≤◌, ◌+◌, ◌<◌, ◌≢◌, Bool, true, false, not, ◌&&◌, eqb, ltb, List, [], ◌∷◌, length, inl, inr, refl, sym, ap, ◌∙◌, arith, cases_eq, eqb-true, eqb-false, lt-ltb, or_cases, and_from, false≢true, and_parts, both_ways, not-true}
use Rattle.mat_graphic.proofs.Common.{false_from_ne_true, is_member, IsRising, RisesFrom, IsSet, IsSubset, AllBelow, all_below, minus, is_set, those_below, Walk, IsRising-minus, member_from, is_member-head, is_member-minus, same_members, AllBelow-from_members, IsRising-all_below, below_member}
use Rattle.mat_graphic.proofs.Common.{is_member-all_below, length-complement, IsSet-those_below, is_member-those_below, IsSet-from_test, IsMaximal-largest_subset, rank_is, IsForest, IsLeastReached, is_walk, is_reached, least_reached, is_forest, is_graphic, number_of_components, least_merged}
use Rattle.mat_graphic.proofs.Common.{IsWithin, least_merged-le, least_merged-fixed, member_within, trail_of_same, walk_same, IsForest-from_test, graphic_laws, is_graphic-with_one, reaching_lower, is_member-reaching_lower, IsRising-reaching_lower, length-reaching_lower}
use Rattle.mat_laws.specs.Ranks.{IsRank, rank}
use Rattle.mat_graphic.specs.SearchLaws.{some_distinct_list-gives, some_distinct_list-from, Walk-from_test, test_from-Walk}

-- a set of numbers below n is that of another test that says the same
those_below-same : (n : ℕ) (f g : ℕ → Bool) → ((k : ℕ) → f k ≡ g k) → those_below n f ≡ those_below n g
those_below-same n f g h = same_members _ _ (IsSet-those_below n f).rising (IsSet-those_below n g).rising
    (λ k. is_member-those_below k n f ∙ ap (λ b. ltb k n && b) (h k) ∙ sym (is_member-those_below k n g))

-- the first item of a rising list is its least
first_is_least : (lo v d : ℕ) (L : List ℕ) → RisesFrom lo L → is_member v L ≡ true
    → (is_member (get_or L 0 d) L ≡ true) × ((z : ℕ) → is_member z L ≡ true → get_or L 0 d ≤ z)
first_is_least lo v d [] r m = absurd (false≢true m)
first_is_least lo v d (y ∷ L) r m = (
  is_member-head y L,
  λ z k. elim (or_cases (eqb z y)
      (is_member z L) k) [ inl e ↦ omega (arith, eqb-true z y e) | inr n ↦ omega (arith, member_from (suc y) z L r.1 n) ],
)

module _ (ends : ℕ → ℕ × ℕ) where
  -- the one by merging is the least vertex that is reached
  pub least_merged-is : (X : List ℕ) (v : ℕ) → IsRising X → IsLeastReached ends X v (least_merged ends X v)
  least_merged-is X v r =
      let P = trail_of_same ends X v (least_merged ends X v) r (sym (least_merged-fixed ends X v)) in
      record {
        along = P.edges;
        inside = P.inside;
        walk = P.walk;
        least = λ edges w s k. omega (arith, walk_same ends X edges v w (λ f m. member_within ends X f (s.inside f m)) k, least_merged-le ends X w);
      }

  pub IsLeastReached-unique : (X : List ℕ) (v r : ℕ) → IsRising X → IsLeastReached ends X v r → least_merged ends X v ≡ r
  IsLeastReached-unique X v r rises h =
      let own = least_merged-is X v rises in
      omega (arith, own.least h.along r h.inside h.walk, h.least own.along (least_merged ends X v) own.inside own.walk)

  is_reached-from_same : (X : List ℕ) (v w : ℕ) → IsRising X → least_merged ends X v ≡ least_merged ends X w
      → is_reached ends X v w ≡ true
  unfolding is_reached
  is_reached-from_same X v w r h =
      let P = trail_of_same ends X v w r h in
      some_distinct_list-from X P.edges (λ edges. is_walk ends edges v w) r P.distinct P.inside (test_from-Walk ends P.edges v w P.walk)

  same-from_is_reached : (X : List ℕ) (v w : ℕ) → is_reached ends X v w ≡ true → least_merged ends X v ≡ least_merged ends X w
  unfolding is_reached
  same-from_is_reached X v w h =
      let found = some_distinct_list-gives X (λ edges. is_walk ends edges v w) h in
      walk_same ends X found.0 v w (λ e m. member_within ends X e (found.2.inside e m)) (Walk-from_test ends found.0 v w found.3)

  -- the least vertex that a look through the walks finds is the one by merging
  pub least_reached-merged : (X : List ℕ) (v : ℕ) → IsRising X → least_reached ends X v ≡ least_merged ends X v
  unfolding least_reached
  least_reached-merged X v r =
      let m = least_merged ends X v in
      let low = least_merged-le ends X v in
      let L = those_below (suc v) (λ w. is_reached ends X v w) in
      let reached : is_reached ends X v m ≡ true = is_reached-from_same X v m r (sym (least_merged-fixed ends X v)) in
      let listed : is_member m L ≡ true = is_member-those_below m (suc v) (λ w. is_reached ends X v w)
      ∙ and_from (ltb m (suc v)) (is_reached ends X v m) (lt-ltb m (suc v) (omega arith)) reached in
      let first = first_is_least 0 m v L (IsSet-those_below (suc v) (λ w. is_reached ends X v w)).rising.rises listed in
      let f = get_or L 0 v in
      let tests = and_parts (ltb f (suc v)) (is_reached ends X v f)
      (sym (is_member-those_below f (suc v) (λ w. is_reached ends X v w)) ∙ first.0) in
      omega (arith, first.1 m listed, same-from_is_reached X v f tests.1, least_merged-le ends X f)

  -- so the components are those by merging
  number-merged : (n : ℕ) (X : List ℕ) → IsRising X
      → number_of_components n ends X ≡ length (those_below n (λ v. eqb (least_merged ends X v) v))
  unfolding number_of_components
  number-merged n X r = ap length (those_below-same n _ _ (λ v. ap (λ z. eqb z v) (least_reached-merged X v r)))

  -- the ends of the edges of X are vertices
  abbrev pub AreEndsBelow : ℕ → List ℕ → Type 0
  AreEndsBelow n X = (e : ℕ) → is_member e X ≡ true → ((ends e).0 < n) × ((ends e).1 < n)

  -- a walk that leads elsewhere starts at an end of an edge
  start_below : (n : ℕ) (edges : List ℕ) (v w : ℕ) → AreEndsBelow n edges → Walk ends edges v w → v ≢ w → v < n
  start_below n [] v w below k other = absurd (other k)
  start_below n (e ∷ edges) v w below k other =
      let own = below e (is_member-head e edges) in
      elim k.1 [ inl j ↦ omega (arith, own.0, j.0) | inr j ↦ omega (arith, own.1, j.1) ]

  reaching_lower-below : (n : ℕ) (F : List ℕ) → IsRising F → AreEndsBelow n F → AllBelow n (reaching_lower ends F)
  reaching_lower-below n F r below = AllBelow-from_members n (reaching_lower ends F) (λ z m.
      let P = trail_of_same ends F z (least_merged ends F z) r (sym (least_merged-fixed ends F z)) in
      let lower : least_merged ends F z ≢ z = eqb-false _ _ (not-true _ (sym (is_member-reaching_lower ends F z) ∙ m)) in
      start_below n P.edges z (least_merged ends F z) (λ e k. below e (P.inside.inside e k)) P.walk (λ same. lower (sym same)))

  -- a forest
  pub forest_and_components : (n : ℕ) (F : List ℕ) → IsRising F → IsForest ends F → AreEndsBelow n F
      → length F + number_of_components n ends F ≡ n
  forest_and_components n F r forest below =
      let least = λ (v : ℕ). eqb (least_merged ends F v) v in
      let same : those_below n least ≡ minus (all_below n) (reaching_lower ends F) = same_members _ _ (IsSet-those_below n least).rising
      (IsRising-minus _ _ (IsRising-all_below n))
      (λ k. is_member-those_below k n least
      ∙ sym (is_member-minus k (all_below n) (reaching_lower ends F) ∙ both (least k) (is_member-all_below k n)
      (is_member-reaching_lower ends F k))) in
      omega (
        arith,
        number-merged n F r,
        ap length same,
        length-complement n (reaching_lower ends F) (IsRising-reaching_lower ends F)
            (reaching_lower-below n F r below),
        length-reaching_lower ends F r forest,
      )
    where
      twice : (q : Bool) → not (not q) ≡ q
      twice true = refl
      twice false = refl

      both : {a b p : Bool} (q : Bool) → a ≡ b → p ≡ not q → (a && not p) ≡ (b && q)
      both {a} {b} {p} q e f = ap (λ c. c && not p) e ∙ ap (λ c. b && not c) f ∙ ap (λ c. b && c) (twice q)

  -- a forest in X that has an edge between the ends of each edge of X has the same components
  same_components : (F X : List ℕ) (v : ℕ) → IsRising F → IsRising X → IsSubset F X
      → ((e : ℕ) → is_member e X ≡ true → IsWithin ends F e)
      → least_merged ends F v ≡ least_merged ends X v
  same_components F X v rf rx inside within =
      let a = least_merged-is F v rf in
      let b = least_merged-is X v rx in
      let along = walk_same ends F b.along v (least_merged ends X v) (λ e m. within e (b.inside.inside e m)) b.walk in
      let back = walk_same ends X a.along v (least_merged ends F v) (λ e m. member_within ends X e
      (inside.inside e (a.inside.inside e m))) a.walk in
      omega (arith, along, back, least_merged-le ends F (least_merged ends X v), least_merged-le ends X (least_merged ends F v))

  -- the ends of each edge of X are in one component of a largest forest in X
  within_largest : (m : ℕ) (X : List ℕ) (r : ℕ) → IsSet m X → (k : IsRank (is_graphic m ends) X r) → (e : ℕ)
      → is_member e X ≡ true → IsWithin ends k.largest e
  within_largest m X r s k e member = elim (cases_eq (least_merged ends k.largest (ends e).0) (least_merged ends k.largest (ends e).1)) [
    | inl same ↦ same
    | inr apart ↦ absurd (
        let out : is_member e k.largest ≡ false = false_from_ne_true _ (λ inside. apart (member_within ends k.largest e inside)) in
        both_ways _ ((IsMaximal-largest_subset (graphic_laws m ends) X r k).full e member out)
        (is_graphic-with_one m ends k.largest e (below_member s member) k.passes apart))
  ]

  pub rank_and_number : (m n : ℕ) (X : List ℕ) → IsSet m X → AreEndsBelow n X
      → rank (is_graphic m ends) X + number_of_components n ends X ≡ n
  rank_and_number m n X s below =
      let k = rank_is (graphic_laws m ends) X s.rising in
      let tests = and_parts (is_set m k.largest) (is_forest ends k.largest) k.passes in
      let set = IsSet-from_test m k.largest tests.0 in
      let same : (v : ℕ) → least_merged ends k.largest v ≡ least_merged ends X v = λ v. same_components k.largest X v set.rising s.rising
      k.inside (within_largest m X (rank (is_graphic m ends) X) s k) in
      let counts : number_of_components n ends k.largest ≡ number_of_components n ends X =
      number-merged n k.largest set.rising ∙ ap length (those_below-same n _ _ (λ v. ap (λ r. eqb r v) (same v)))
      ∙ sym (number-merged n X s.rising) in
      let forest = IsForest-from_test ends k.largest set.rising tests.1 in
      omega (arith, counts, forest_and_components n k.largest set.rising forest (λ e inside. below e (k.inside.inside e inside)), k.size)
