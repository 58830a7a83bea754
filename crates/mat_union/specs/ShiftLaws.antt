-- Elements that shift along a walk: each takes the place of the next one in the part where that stands, and the last one leaves, or is
-- added to a part. In each part the pairs are triangular, since the walk has no shortcut; where an element is added, none of the earlier
-- ones could be, and it joins the exchanged part.
use Rattle.std.proofs.Common.{◌≡◌, ◌≢◌, ℕ, suc, zero, ◌<◌, ◌≤◌, Bool, true, false, not, ◌||◌, ◌&&◌, eqb, List, [], ◌∷◌, length, get_or, map, pos, inl, inr, refl, sym, ap, ◌∙◌, subst, arith, ◌⊎◌}
use Rattle.std.proofs.lemmas.Bool.{cases_Bool, cases_eq, cases_lt, and_parts, and_from, or_cases, or_left, or_right, both_ways, false_from_ne_true, not-true, not_from_false, eqb-true, eq-eqb, ne_eqb, lt-ltb, ltb-true, eqb-false}
use Rattle.std.proofs.lemmas.Int.{ints}
use Rattle.std.proofs.lemmas.List.{get_or-map, length-map}
use Rattle.std.specs.List.{filter}
use Rattle.mat_sets.specs.Sets.{all_below, is_member, IsRising, minus, union, with_one, without_one}
use Rattle.mat_sets.specs.Sums.{sum_of}
use Rattle.mat_sets.specs.Weights.{zero_weight}
use Rattle.mat_sets.proofs.WeightOrder.{pairs as weight_pairs}
use Rattle.mat_sets.specs.Families.{family_union}
use Rattle.mat_sets.proofs.Members.{same_members, is_member-minus, is_member-union, is_member-filter, is_member-get_or, is_member-with_one, is_member-without_one, IsRising-minus, IsRising-union, IsRising-with_one, IsRising-without_one, RisesFrom-index}
use Rattle.mat_sets.proofs.Families.{IsRising-family_union, family_union-gives, family_union-from}
use Rattle.mat_sets.proofs.Filters.{IsRising-filter}
use Rattle.mat_sets.proofs.Ground.{IsRising-all_below, is_member-all_below, length-all_below, get_or-all_below}
use Rattle.mat_sets.proofs.MappedLists.{is_member-map, mapped_member}
use Rattle.mat_sets.proofs.Truths.{same_truth, or_assoc}
use Rattle.mat_laws.specs.Matroids.{IsMatroid}
use Rattle.mat_laws.specs.Exchanges.{IsTriangular}
use Rattle.mat_laws.proofs.PathSides.{path_side_step}
use Rattle.mat_laws.proofs.Triangular.{triangular_exchange, is_value, is_value-list}
use Rattle.mat_union.specs.Unions.{test_at, part_at, AreMatroids, AreParts}
use Rattle.mat_union.specs.PartListLaws.{law_at, part_set, one_place, nowhere, AreDisjoint-index}

-- ---- one more element after a triangular exchange

sum_of-zero : (X : List ℕ) → sum_of (λ x. pos 0) X ≡ pos 0
sum_of-zero [] = refl
sum_of-zero (x ∷ X) = omega (arith, ints, sum_of-zero X)

-- an element that can be added to I can be added after a triangular exchange, if none of the xs could be added to I
pub joins_exchanged : {n : ℕ} {p : List ℕ → Bool} → IsMatroid n p → (I ys xs : List ℕ) (s : ℕ) → p I ≡ true → IsTriangular p I ys xs
    → is_member s I ≡ false → is_member s xs ≡ false → p (with_one I s) ≡ true
    → ((i : ℕ) → i < length xs → p (with_one I (get_or xs i 0)) ≡ false)
    → (J : List ℕ) → IsRising J → ((z : ℕ) → is_member z J ≡ (eqb z s || (is_member z xs || (is_member z I && not (is_member z ys)))))
    → p J ≡ true
joins_exchanged {n} {p} laws I ys xs s ok t s_out s_new adds blocked J rj members =
    let m = length ys in
    let x : ℕ → ℕ = λ i. get_or xs i 0 in
    let y : ℕ → ℕ = λ i. get_or ys i 0 in
    let long : m ≡ length xs = t.lengths in
    (path_side_step laws (λ z. zero_weight) I s m y x (record {
      heaviest = record { passes = ok; most = λ Y oy e. (let a = sum_of-zero Y in let b = sum_of-zero I in omega (arith, ints, weight_pairs)) };
      source_outside = s_out;
      source_adds = adds;
      source_top = λ e o a. omega (arith, ints, weight_pairs);
      inside = t.inside;
      outside = t.outside;
      ys_differ = t.ys_differ;
      xs_differ = t.xs_differ;
      source_differs = λ i l e. both_ways _ s_new (is_member-get_or xs i s (omega arith) e);
      own = t.own;
      tight = λ i l. refl;
      no_shortcut = λ i j l h e. t.none_later i j l h;
      no_source = λ i l a. absurd (both_ways _ (blocked i (omega arith)) a);
    }) J rj (λ z. members z ∙ ap (λ b. eqb z s || b) (both (is_value x m z) (is_member z xs) (is_value y m z) (is_member z ys) (is_member z I) (ap (λ l. is_value x l z) t.lengths ∙ is_value-list xs z) (is_value-list ys z)))).1.passes
  where
    both : (a b c d i : Bool) → a ≡ b → c ≡ d → (b || (i && not d)) ≡ (a || (i && not c))
    both a b c d i f g = cc

-- ---- the elements that enter and leave a part

-- the first c indices whose element enters part q
abbrev pub indices_into : ℕ → (ℕ → ℕ) → ℕ → List ℕ
indices_into c t q = filter (λ i. eqb (t i) q) (all_below c)

-- the elements with these indices
abbrev pub elements_into : ℕ → (ℕ → ℕ) → (ℕ → ℕ) → ℕ → List ℕ
elements_into c e t q = map e (indices_into c t q)

-- the elements of the walk
abbrev pub elements_on : ℕ → (ℕ → ℕ) → List ℕ
elements_on k e = map e (all_below (suc k))

-- part q after the first c elements moved
abbrev pub shifted : List (List ℕ) → ℕ → ℕ → (ℕ → ℕ) → (ℕ → ℕ) → ℕ → List ℕ
shifted parts k c e t q = union (elements_into c e t q) (minus (part_at parts q) (elements_on k e))

-- all parts after the first c elements moved
abbrev pub all_shifted : List (List ℕ) → ℕ → ℕ → (ℕ → ℕ) → (ℕ → ℕ) → List (List ℕ)
all_shifted parts k c e t = map (shifted parts k c e t) (all_below (length parts))

index_facts : (c : ℕ) (t : ℕ → ℕ) (q i : ℕ) → is_member i (indices_into c t q) ≡ true → (i < c) × (t i ≡ q)
index_facts c t q i h =
    let a = and_parts (is_member i (all_below c)) (eqb (t i) q) (sym (is_member-filter (λ j. eqb (t j) q) i (all_below c)) ∙ h) in
    (ltb-true i c (sym (is_member-all_below i c) ∙ a.0), eqb-true (t i) q a.1)

pub into_gives : (c : ℕ) (e t : ℕ → ℕ) (q z : ℕ) → is_member z (elements_into c e t q) ≡ true → (i : ℕ) × (i < c) × (t i ≡ q) × (e i ≡ z)
into_gives c e t q z h = let w = mapped_member e (indices_into c t q) z h in let f = index_facts c t q w.0 w.1 in (w.0, f.0, f.1, w.2)

pub into_from : (c : ℕ) (e t : ℕ → ℕ) (q i : ℕ) → i < c → t i ≡ q → is_member (e i) (elements_into c e t q) ≡ true
into_from c e t q i l h = is_member-map e (indices_into c t q) i (is_member-filter (λ j. eqb (t j) q) i (all_below c) ∙ and_from _ _ (is_member-all_below i c ∙ lt-ltb i c l) (eq-eqb (t i) q h))

pub on_gives : (k : ℕ) (e : ℕ → ℕ) (z : ℕ) → is_member z (elements_on k e) ≡ true → (i : ℕ) × (i ≤ k) × (e i ≡ z)
on_gives k e z h = let w = mapped_member e (all_below (suc k)) z h in let l = ltb-true w.0 (suc k) (sym (is_member-all_below w.0 (suc k)) ∙ w.1) in (w.0, omega arith, w.2)

pub on_from : (k : ℕ) (e : ℕ → ℕ) (i : ℕ) → i ≤ k → is_member (e i) (elements_on k e) ≡ true
on_from k e i l = is_member-map e (all_below (suc k)) i (is_member-all_below i (suc k) ∙ lt-ltb i (suc k) (omega arith))

-- ---- a walk along which elements shift

-- e 0 is in no part; each e i can take the place of e (i + 1) in part t i, where that stands, and of no later one; all are different
pub record IsShift (tests : List (List ℕ → Bool)) (parts : List (List ℕ)) (k : ℕ) (e t : ℕ → ℕ) : Type 0 where
  pub fresh : is_member (e 0) (family_union parts) ≡ false
  pub places : (i : ℕ) → i < k → t i < length parts
  pub stands : (i : ℕ) → i < k → is_member (e (suc i)) (part_at parts (t i)) ≡ true
  pub away : (i : ℕ) → i < k → is_member (e i) (part_at parts (t i)) ≡ false
  pub own : (i : ℕ) → i < k → test_at tests (t i) (with_one (without_one (part_at parts (t i)) (e (suc i))) (e i)) ≡ true
  pub none_later : (i j : ℕ) → i < j → j < k → t i ≡ t j → test_at tests (t j) (with_one (without_one (part_at parts (t j)) (e (suc j))) (e i)) ≡ false
  pub differ : (i j : ℕ) → i < j → j ≤ k → e i ≢ e j

module _ {n : ℕ} {tests : List (List ℕ → Bool)} {parts : List (List ℕ)} (laws : AreMatroids n tests) (are : AreParts tests parts)
    {k : ℕ} {e t : ℕ → ℕ} (s : IsShift tests parts k e t) where
  same_index : (i j : ℕ) → i ≤ k → j ≤ k → e i ≡ e j → i ≡ j
  same_index i j il jl h = elim (cases_eq i j) [
    | inl q ↦ q
    | inr d ↦ elim (cases_lt i j) [ inl l ↦ absurd (s.differ i j l jl h) | inr l ↦ absurd (s.differ j i (omega arith) il (sym h)) ]
  ]

  -- an element of the walk that stands in part q stands there in place of the one before it
  standing : (q i : ℕ) → i ≤ k → q < length parts → is_member (e i) (part_at parts q) ≡ true → (j : ℕ) × (i ≡ suc j) × (j < k) × (t j ≡ q)
  standing q zero l ql h = absurd (both_ways _ (nowhere laws are q (e 0) s.fresh ql) h)
  standing q (suc j) l ql h = (j, refl, omega arith, one_place laws are (t j) q (e (suc j)) (s.stands j (omega arith)) h)

  abbrev leaving : ℕ → List ℕ
  leaving q = map (λ i. e (suc i)) (indices_into k t q)

  pairs : (q : ℕ) → q < length parts → IsTriangular (test_at tests q) (part_at parts q) (leaving q) (elements_into k e t q)
  pairs q ql =
      let sel = indices_into k t q in
      let pick : ℕ → ℕ = λ i. get_or sel i 0 in
      let ny : length (leaving q) ≡ length sel = length-map sel (λ i. e (suc i)) in
      let nx : length (elements_into k e t q) ≡ length sel = length-map sel e in
      let fact : (i : ℕ) → i < length sel → (pick i < k) × (t (pick i) ≡ q) = λ i l. index_facts k t q (pick i) (is_member-get_or sel i (pick i) l refl) in
      let rise : (i j : ℕ) → i < j → j < length sel → pick i < pick j = λ i j l h. RisesFrom-index 0 sel i j (IsRising-filter (λ v. eqb (t v) q) (all_below k) (IsRising-all_below k)).rises l h in
      let y_at : (i : ℕ) → i < length sel → get_or (leaving q) i 0 ≡ e (suc (pick i)) = λ i l. get_or-map (λ v. e (suc v)) sel i 0 0 l in
      let x_at : (i : ℕ) → i < length sel → get_or (elements_into k e t q) i 0 ≡ e (pick i) = λ i l. get_or-map e sel i 0 0 l in
      record {
        lengths = ny ∙ sym nx;
        inside = λ i l. (let h : i < length sel = omega arith in let f = fact i h in
            ap (λ v. is_member v (part_at parts q)) (y_at i h) ∙ subst (λ r. is_member (e (suc (pick i))) (part_at parts r) ≡ true) f.1 (s.stands (pick i) f.0));
        outside = λ i l. (let h : i < length sel = omega arith in let f = fact i h in
            ap (λ v. is_member v (part_at parts q)) (x_at i h) ∙ subst (λ r. is_member (e (pick i)) (part_at parts r) ≡ false) f.1 (s.away (pick i) f.0));
        ys_differ = λ i j l h. (let hi : i < length sel = omega arith in let hj : j < length sel = omega arith in let r = rise i j l hj in let f = (fact j hj).0 in
            λ same. s.differ (suc (pick i)) (suc (pick j)) (omega arith) (omega arith) (sym (y_at i hi) ∙ same ∙ y_at j hj));
        xs_differ = λ i j l h. (let hi : i < length sel = omega arith in let hj : j < length sel = omega arith in let r = rise i j l hj in let f = (fact j hj).0 in
            λ same. s.differ (pick i) (pick j) r (omega arith) (sym (x_at i hi) ∙ same ∙ x_at j hj));
        own = λ i l. (let h : i < length sel = omega arith in let f = fact i h in
            at_pair q (get_or (leaving q) i 0) (e (suc (pick i))) (get_or (elements_into k e t q) i 0) (e (pick i)) true (y_at i h) (x_at i h)
            (subst (λ r. test_at tests r (with_one (without_one (part_at parts r) (e (suc (pick i)))) (e (pick i))) ≡ true) f.1 (s.own (pick i) f.0)));
        none_later = λ i j l h. (let hi : i < length sel = omega arith in let hj : j < length sel = omega arith in let fi = fact i hi in let fj = fact j hj in
            at_pair q (get_or (leaving q) j 0) (e (suc (pick j))) (get_or (elements_into k e t q) i 0) (e (pick i)) false (y_at j hj) (x_at i hi)
            (subst (λ r. test_at tests r (with_one (without_one (part_at parts r) (e (suc (pick j)))) (e (pick i))) ≡ false) fj.1 (s.none_later (pick i) (pick j) (rise i j l hj) fj.0 (fi.1 ∙ sym fj.1))));
      }
    where
      at_pair : (q y y' x x' : ℕ) (b : Bool) → y ≡ y' → x ≡ x' → test_at tests q (with_one (without_one (part_at parts q) y') x') ≡ b
          → test_at tests q (with_one (without_one (part_at parts q) y) x) ≡ b
      at_pair q y y' x x' b f g h = rw (f, g) h

  -- what leaves part q is what stands there of the walk
  leaves : (q z : ℕ) → q < length parts → is_member z (part_at parts q) ≡ true → is_member z (leaving q) ≡ is_member z (elements_on k e)
  leaves q z ql h = same_truth _ _
      (λ m. (let w = mapped_member (λ i. e (suc i)) (indices_into k t q) z m in let f = index_facts k t q w.0 w.1 in
      subst (λ v. is_member v (elements_on k e) ≡ true) w.2 (on_from k e (suc w.0) (let l = f.0 in omega arith))))
      (λ m. (let w = on_gives k e z m in
      let st = standing q w.0 w.1 ql (ap (λ v. is_member v (part_at parts q)) w.2 ∙ h) in
      let j = st.0 in
      let in_sel : is_member j (indices_into k t q) ≡ true = is_member-filter (λ i. eqb (t i) q) j (all_below k) ∙ and_from _ _ (is_member-all_below j k ∙ lt-ltb j k st.2) (eq-eqb (t j) q st.3) in
      subst (λ v. is_member v (leaving q) ≡ true) (ap e (sym st.1) ∙ w.2) (is_member-map (λ i. e (suc i)) (indices_into k t q) j in_sel)))

  kept_same : (q z : ℕ) → q < length parts → (is_member z (part_at parts q) && not (is_member z (elements_on k e))) ≡ (is_member z (part_at parts q) && not (is_member z (leaving q)))
  kept_same q z ql = elim (cases_Bool (is_member z (part_at parts q))) [
    | inl a ↦ ap (λ b. is_member z (part_at parts q) && not b) (sym (leaves q z ql a))
    | inr a ↦ rw a refl
  ]

  part_rising : (q : ℕ) → q < length parts → IsRising (part_at parts q)
  part_rising q ql = (part_set laws are q ql).rising

  -- a part into which the last element does not move
  pub shifted_passes : (q : ℕ) → q < length parts → test_at tests q (shifted parts k k e t q) ≡ true
  shifted_passes q ql =
      let P = part_at parts q in
      let xs = elements_into k e t q in
      let same : shifted parts k k e t q ≡ union xs (minus P (leaving q)) = same_members _ _ (IsRising-union xs _ (IsRising-minus P _ (part_rising q ql))) (IsRising-union xs _ (IsRising-minus P _ (part_rising q ql)))
      (λ z. is_member-union z xs (minus P (elements_on k e)) ∙ ap (λ b. is_member z xs || b) (is_member-minus z P (elements_on k e) ∙ kept_same q z ql ∙ sym (is_member-minus z P (leaving q))) ∙ sym (is_member-union z xs (minus P (leaving q)))) in
      ap (test_at tests q) same ∙ triangular_exchange (law_at laws are q ql) P (leaving q) xs (are.passes q ql) (pairs q ql)

  -- a part into which the last element does not move, although it moves
  pub shifted_passes_other : (q : ℕ) → q < length parts → t k ≢ q → test_at tests q (shifted parts k (suc k) e t q) ≡ true
  shifted_passes_other q ql other =
      let P = part_at parts q in
      let same : shifted parts k (suc k) e t q ≡ shifted parts k k e t q = same_members _ _ (IsRising-union _ _ (IsRising-minus P _ (part_rising q ql))) (IsRising-union _ _ (IsRising-minus P _ (part_rising q ql)))
      (λ z. is_member-union z (elements_into (suc k) e t q) (minus P (elements_on k e)) ∙ ap (λ b. b || is_member z (minus P (elements_on k e))) (fewer z) ∙ sym (is_member-union z (elements_into k e t q) (minus P (elements_on k e)))) in
      ap (test_at tests q) same ∙ shifted_passes q ql
    where
      fewer : (z : ℕ) → is_member z (elements_into (suc k) e t q) ≡ is_member z (elements_into k e t q)
      fewer z = same_truth _ _
          (λ m. (let w = into_gives (suc k) e t q z m in
          let l : w.0 < k = (elim (cases_eq w.0 k) [ inl d ↦ absurd (other (ap t (sym d) ∙ w.2)) | inr d ↦ (let a = w.1 in omega arith) ]) in
          subst (λ v. is_member v (elements_into k e t q) ≡ true) w.3 (into_from k e t q w.0 l w.2)))
          (λ m. (let w = into_gives k e t q z m in let l = w.1 in subst (λ v. is_member v (elements_into (suc k) e t q) ≡ true) w.3 (into_from (suc k) e t q w.0 (omega arith) w.2)))

  -- the part to which the last element is added
  pub shifted_passes_last : (q : ℕ) → q < length parts → t k ≡ q → is_member (e k) (part_at parts q) ≡ false → test_at tests q (with_one (part_at parts q) (e k)) ≡ true
      → ((i : ℕ) → i < k → t i ≡ q → test_at tests q (with_one (part_at parts q) (e i)) ≡ false)
      → test_at tests q (shifted parts k (suc k) e t q) ≡ true
  shifted_passes_last q ql here out adds blocked =
      let P = part_at parts q in
      let xs = elements_into k e t q in
      let sel = indices_into k t q in
      joins_exchanged (law_at laws are q ql) P (leaving q) xs (e k) (are.passes q ql) (pairs q ql) out
      (false_from_ne_true _ (λ m. (let w = into_gives k e t q (e k) m in s.differ w.0 k w.1 (omega arith) w.3)))
      adds
      (λ i l. (let long : length xs ≡ length sel = length-map sel e in
      let h : i < length sel = omega arith in
      let f = index_facts k t q (get_or sel i 0) (is_member-get_or sel i (get_or sel i 0) h refl) in
      ap (λ v. test_at tests q (with_one P v)) (get_or-map e sel i 0 0 h) ∙ blocked (get_or sel i 0) f.0 f.1))
      (shifted parts k (suc k) e t q) (IsRising-union _ _ (IsRising-minus P _ (part_rising q ql)))
      (λ z. is_member-union z (elements_into (suc k) e t q) (minus P (elements_on k e))
      ∙ ap (λ b. b || is_member z (minus P (elements_on k e))) (one_more z)
      ∙ ap (λ b. (eqb z (e k) || is_member z xs) || b) (is_member-minus z P (elements_on k e) ∙ kept_same q z ql)
      ∙ sym (or_assoc (eqb z (e k)) (is_member z xs) (is_member z P && not (is_member z (leaving q)))))
    where
      one_more : (z : ℕ) → is_member z (elements_into (suc k) e t q) ≡ (eqb z (e k) || is_member z (elements_into k e t q))
      one_more z = same_truth _ _
          (λ m. (let w = into_gives (suc k) e t q z m in
          elim (cases_eq w.0 k) [
            | inl d ↦ or_left _ _ (eq-eqb z (e k) (sym w.3 ∙ ap e d))
            | inr d ↦ (let a = w.1 in or_right (eqb z (e k)) _ (subst (λ v. is_member v (elements_into k e t q) ≡ true) w.3 (into_from k e t q w.0 (omega arith) w.2)))
          ]))
          (λ m. elim (or_cases (eqb z (e k)) (is_member z (elements_into k e t q)) m) [
            | inl a ↦ subst (λ v. is_member v (elements_into (suc k) e t q) ≡ true) (sym (eqb-true z (e k) a)) (into_from (suc k) e t q k (omega arith) here)
            | inr a ↦ (let w = into_gives k e t q z a in let l = w.1 in subst (λ v. is_member v (elements_into (suc k) e t q) ≡ true) w.3 (into_from (suc k) e t q w.0 (omega arith) w.2))
          ])

  -- ---- the new parts all together

  module _ (c : ℕ) (up : k ≤ c) (down : c ≤ suc k) (places : (i : ℕ) → i < c → t i < length parts)
      (passing : (q : ℕ) → q < length parts → test_at tests q (shifted parts k c e t q) ≡ true) where
    abbrev new : List (List ℕ)
    new = all_shifted parts k c e t

    pub length-new : length new ≡ length parts
    length-new = length-map (all_below (length parts)) (shifted parts k c e t) ∙ length-all_below (length parts)

    pub part_at-new : (q : ℕ) → q < length parts → part_at new q ≡ shifted parts k c e t q
    part_at-new q ql = get_or-map (shifted parts k c e t) (all_below (length parts)) q 0 [] (let l = length-all_below (length parts) in omega arith) ∙ ap (shifted parts k c e t) (get_or-all_below (length parts) q 0 ql)

    shifted_gives : (q z : ℕ) → is_member z (shifted parts k c e t q) ≡ true
        → ((i : ℕ) × (i < c) × (t i ≡ q) × (e i ≡ z)) ⊎ ((is_member z (part_at parts q) ≡ true) × (is_member z (elements_on k e) ≡ false))
    shifted_gives q z m = elim (or_cases (is_member z (elements_into c e t q)) (is_member z (minus (part_at parts q) (elements_on k e))) (sym (is_member-union z (elements_into c e t q) (minus (part_at parts q) (elements_on k e))) ∙ m)) [
      | inl a ↦ inl (into_gives c e t q z a)
      | inr a ↦ (let b = and_parts (is_member z (part_at parts q)) (not (is_member z (elements_on k e))) (sym (is_member-minus z (part_at parts q) (elements_on k e)) ∙ a) in inr (b.0, not-true _ b.1))
    ]

    new_apart : (i j z : ℕ) → i < j → j < length parts → is_member z (shifted parts k c e t i) ≡ true → is_member z (shifted parts k c e t j) ≡ false
    new_apart i j z l jl h = false_from_ne_true _ (λ m.
        elim (shifted_gives i z h) [
          | inl a ↦ elim (shifted_gives j z m) [
            | inl b ↦ differs l (sym a.2 ∙ ap t (same_index a.0 b.0 (on a.0 a.1) (on b.0 b.1) (a.3 ∙ sym b.3)) ∙ b.2)
            | inr b ↦ both_ways _ b.1 (subst (λ v. is_member v (elements_on k e) ≡ true) a.3 (on_from k e a.0 (on a.0 a.1)))
          ]
          | inr a ↦ elim (shifted_gives j z m) [
            | inl b ↦ both_ways _ a.1 (subst (λ v. is_member v (elements_on k e) ≡ true) b.3 (on_from k e b.0 (on b.0 b.1)))
            | inr b ↦ differs l (one_place laws are i j z a.0 b.0)
          ]
        ])
      where
        on : (a : ℕ) → a < c → a ≤ k
        on a h = omega arith

        differs : {i j : ℕ} → i < j → i ≡ j → ⊥
        differs h d = omega arith

    pub new_are : AreParts tests new
    new_are = record {
      one_each = length-new ∙ are.one_each;
      disjoint = AreDisjoint-index new (λ i j z l h m.
          let jl : j < length parts = (let q = length-new in omega arith) in
          ap (is_member z) (part_at-new j jl) ∙ new_apart i j z l jl (ap (is_member z) (sym (part_at-new i (omega arith))) ∙ m));
      passes = λ q l. (let ql : q < length parts = (let r = length-new in omega arith) in ap (test_at tests q) (part_at-new q ql) ∙ passing q ql);
    }

    -- what is in the new parts: an element that moved, or one of a part that is not on the walk
    pub new_gives : (z : ℕ) → is_member z (family_union new) ≡ true
        → ((i : ℕ) × (i < c) × (e i ≡ z)) ⊎ ((is_member z (family_union parts) ≡ true) × (is_member z (elements_on k e) ≡ false))
    new_gives z m =
        let w = family_union-gives z new m in
        let ql : w.0 < length parts = (let r = length-new in let l = w.1 in omega arith) in
        elim (shifted_gives w.0 z (ap (is_member z) (sym (part_at-new w.0 ql)) ∙ w.2)) [
          | inl a ↦ inl (a.0, a.1, a.3)
          | inr a ↦ inr (family_union-from z parts w.0 ql a.0, a.1)
        ]

    in_new : (q z : ℕ) → q < length parts → is_member z (shifted parts k c e t q) ≡ true → is_member z (family_union new) ≡ true
    in_new q z ql h = family_union-from z new q (let r = length-new in omega arith) (ap (is_member z) (part_at-new q ql) ∙ h)

    pub moved_in : (i : ℕ) → i < c → is_member (e i) (family_union new) ≡ true
    moved_in i l = in_new (t i) (e i) (places i l) (is_member-union (e i) (elements_into c e t (t i)) _ ∙ or_left _ _ (into_from c e t (t i) i l refl))

    pub kept_in : (z : ℕ) → is_member z (family_union parts) ≡ true → is_member z (elements_on k e) ≡ false → is_member z (family_union new) ≡ true
    kept_in z h o =
        let w = family_union-gives z parts h in
        in_new w.0 z w.1 (is_member-union z (elements_into c e t w.0) (minus (part_at parts w.0) (elements_on k e)) ∙ or_right _ _ (is_member-minus z (part_at parts w.0) (elements_on k e) ∙ and_from _ _ w.2 (not_from_false _ o)))

  -- the elements of the walk after the first are in parts
  pub walk_in : (i : ℕ) → i < k → is_member (e (suc i)) (family_union parts) ≡ true
  walk_in i l = family_union-from (e (suc i)) parts (t i) (s.places i l) (s.stands i l)

  -- where the last element moves too
  pub together_added : (places : (i : ℕ) → i < suc k → t i < length parts) → ((q : ℕ) → q < length parts → test_at tests q (shifted parts k (suc k) e t q) ≡ true)
      → family_union (all_shifted parts k (suc k) e t) ≡ with_one (family_union parts) (e 0)
  together_added places passing = same_members _ _ (IsRising-family_union _) (IsRising-with_one _ (e 0) (IsRising-family_union parts)) (λ z. same_truth _ _
      (λ m. is_member-with_one z (e 0) (family_union parts) ∙ elim (new_gives (suc k) (omega arith) (omega arith) places passing z m) [
        | inl a ↦ on_walk z a.0 a.1 a.2
        | inr a ↦ or_right (eqb z (e 0)) _ a.0
      ])
      (λ m. elim (or_cases (eqb z (e 0)) (is_member z (family_union parts)) (sym (is_member-with_one z (e 0) (family_union parts)) ∙ m)) [
        | inl a ↦ subst (λ v. is_member v (family_union (all_shifted parts k (suc k) e t)) ≡ true) (sym (eqb-true z (e 0) a)) (moved_in (suc k) (omega arith) (omega arith) places passing 0 (omega arith))
        | inr a ↦ elim (cases_Bool (is_member z (elements_on k e))) [
          | inl b ↦ (let w = on_gives k e z b in let l = w.1 in subst (λ v. is_member v (family_union (all_shifted parts k (suc k) e t)) ≡ true) w.2 (moved_in (suc k) (omega arith) (omega arith) places passing w.0 (omega arith)))
          | inr b ↦ kept_in (suc k) (omega arith) (omega arith) places passing z a b
        ]
      ]))
    where
      on_walk : (z i : ℕ) → i < suc k → e i ≡ z → (eqb z (e 0) || is_member z (family_union parts)) ≡ true
      on_walk z zero l h = or_left _ _ (eq-eqb z (e 0) (sym h))
      on_walk z (suc i) l h = or_right (eqb z (e 0)) _ (subst (λ v. is_member v (family_union parts) ≡ true) h (walk_in i (omega arith)))

  -- where the last element leaves
  pub together_exchanged : 0 < k → family_union (all_shifted parts k k e t) ≡ with_one (without_one (family_union parts) (e k)) (e 0)
  together_exchanged some = same_members _ _ (IsRising-family_union _) (IsRising-with_one _ (e 0) (IsRising-without_one _ (e k) (IsRising-family_union parts))) (λ z. same_truth _ _
      (λ m. members z ∙ elim (new_gives k (omega arith) (omega arith) s.places shifted_passes z m) [
        | inl a ↦ on_walk z a.0 a.1 a.2
        | inr a ↦ or_right (eqb z (e 0)) _ (and_from _ _ a.0 (not_from_false _ (ne_eqb z (e k) (λ h. both_ways _ a.1 (subst (λ v. is_member v (elements_on k e) ≡ true) (sym h) (on_from k e k (omega arith)))))))
      ])
      (λ m. elim (or_cases (eqb z (e 0)) (is_member z (family_union parts) && not (eqb z (e k))) (sym (members z) ∙ m)) [
        | inl a ↦ subst (λ v. is_member v (family_union (all_shifted parts k k e t)) ≡ true) (sym (eqb-true z (e 0) a)) (moved_in k (omega arith) (omega arith) s.places shifted_passes 0 some)
        | inr a ↦ (let b = and_parts (is_member z (family_union parts)) (not (eqb z (e k))) a in
            elim (cases_Bool (is_member z (elements_on k e))) [
              | inl d ↦ (let w = on_gives k e z d in
                  let l : w.0 < k = (elim (cases_eq w.0 k) [ inl h ↦ absurd (eqb-false z (e k) (not-true _ b.1) (sym w.2 ∙ ap e h)) | inr h ↦ (let v = w.1 in omega arith) ]) in
                  subst (λ v. is_member v (family_union (all_shifted parts k k e t)) ≡ true) w.2 (moved_in k (omega arith) (omega arith) s.places shifted_passes w.0 l))
              | inr d ↦ kept_in k (omega arith) (omega arith) s.places shifted_passes z b.0 d
            ])
      ]))
    where
      members : (z : ℕ) → is_member z (with_one (without_one (family_union parts) (e k)) (e 0)) ≡ (eqb z (e 0) || (is_member z (family_union parts) && not (eqb z (e k))))
      members z = is_member-with_one z (e 0) (without_one (family_union parts) (e k)) ∙ ap (λ b. eqb z (e 0) || b) (is_member-without_one z (e k) (family_union parts))

      on_walk : (z i : ℕ) → i < k → e i ≡ z → (eqb z (e 0) || (is_member z (family_union parts) && not (eqb z (e k)))) ≡ true
      on_walk z zero l h = or_left _ _ (eq-eqb z (e 0) (sym h))
      on_walk z (suc i) l h = or_right (eqb z (e 0)) _ (and_from _ _ (subst (λ v. is_member v (family_union parts) ≡ true) h (walk_in i (omega arith)))
          (not_from_false _ (ne_eqb z (e k) (λ q. s.differ (suc i) k l (omega arith) (h ∙ q)))))
