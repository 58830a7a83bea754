-- Where no two listed sets cross, the sets within the caps are the independent sets of a matroid (Schrijver, chapter 39).
-- Idea of the exchange: if each element of J outside I stands in a set that I fills, then I has at least as many members
-- as J in each filled set, and so in their union, since filled sets are nested or apart; and outside the union J lies in I.
use Rattle.std.proofs.Common.{◌≡◌, ℕ, zero, suc, ◌<◌, ◌≤◌, ◌+◌, true, false, cond, not, ◌&&◌, leb, ltb, List, [], ◌∷◌, length, get_or, ◌⊎◌, inl, inr, refl, ap, ◌∙◌, arith}
use Rattle.std.proofs.lemmas.Bool.{cases_Bool, cases_lt, and_parts, and_from, both_ways, leb-true, le-leb, ltb-true, lt-ltb, not-true, false_from_ne_true}
use Rattle.mat_sets.specs.Sets.{is_member, IsRising, IsSubset, with_one, minus, intersection, union}
use Rattle.mat_sets.specs.SetTests.{is_set}
use Rattle.mat_sets.specs.Families.{indicator, family_union}
use Rattle.mat_sets.proofs.Members.{IsRising-intersection, IsRising-minus, IsRising-nil, IsRising-with_one, intersection-none, is_member-head, is_member-union, same_members, set_members}
use Rattle.mat_sets.proofs.Sums.{sizes}
use Rattle.mat_sets.proofs.Subsets.{find_member, length-subset, subset_or}
use Rattle.mat_sets.proofs.Cardinalities.{length-minus-intersection, length-with_one}
use Rattle.mat_sets.proofs.Ground.{AllBelow-member, AllBelow-subset}
use Rattle.mat_sets.proofs.SetTests.{IsSet-from_test, is_set-true, is_set-with_one}
use Rattle.mat_laws.specs.Matroids.{IsMatroid}
use Rattle.mat_count.specs.Counts.{is_within_caps, IsWithinCaps, is_counted}
use Rattle.mat_count.specs.Laminar.{crosses, Crosses, IsLaminarFamily}

-- ---- the tests and their sentences

-- a list that is not empty has a member
some_member : (X : List ℕ) → ltb 0 (length X) ≡ true → (x : ℕ) × (is_member x X ≡ true)
some_member [] h = absurd (let l = ltb-true 0 0 h in omega arith)
some_member (x ∷ X) h = (x, is_member-head x X)

-- a list that has a member is not empty
has_some : (X : List ℕ) (x : ℕ) → is_member x X ≡ true → ltb 0 (length X) ≡ true
has_some [] x h = absurd (both_ways false refl h)
has_some (y ∷ X) x h = lt-ltb 0 (suc (length X)) (omega arith)

pub Crosses-from_test : (A B : List ℕ) → crosses A B ≡ true → Crosses A B
unfolding crosses
Crosses-from_test A B h =
    let meet = and_parts (ltb 0 (length (intersection A B))) (ltb 0 (length (minus A B)) && ltb 0 (length (minus B A))) h in
    let apart = and_parts (ltb 0 (length (minus A B))) (ltb 0 (length (minus B A))) meet.1 in
    let shared = some_member (intersection A B) meet.0 in
    let first = some_member (minus A B) apart.0 in
    let second = some_member (minus B A) apart.1 in
    let in_both = shared.1 in
    let in_first = first.1 in
    let in_second = second.1 in
    record {
      shared = shared.0;
      first = first.0;
      second = second.0;
      shared_in_first = grind (arith, set_members);
      shared_in_second = grind (arith, set_members);
      first_inside = grind (arith, set_members);
      first_outside = grind (arith, set_members);
      second_inside = grind (arith, set_members);
      second_outside = grind (arith, set_members);
    }

pub test_from-Crosses : (A B : List ℕ) → Crosses A B → crosses A B ≡ true
unfolding crosses
test_from-Crosses A B c =
    let shared : is_member c.shared (intersection A B) ≡ true = grind (arith, set_members) in
    let first : is_member c.first (minus A B) ≡ true = grind (arith, set_members) in
    let second : is_member c.second (minus B A) ≡ true = grind (arith, set_members) in
    and_from (ltb 0 (length (intersection A B))) (ltb 0 (length (minus A B)) && ltb 0 (length (minus B A))) (has_some _ _ shared)
    (and_from (ltb 0 (length (minus A B))) (ltb 0 (length (minus B A))) (has_some _ _ first) (has_some _ _ second))

pub IsWithinCaps-from_test : (sets : List (List ℕ)) (caps X : List ℕ) → length caps ≡ length sets → is_within_caps sets caps X ≡ true
    → IsWithinCaps sets caps X
IsWithinCaps-from_test sets caps X same h = record { at = at sets caps same h }
  where
    at : (sets : List (List ℕ)) (caps : List ℕ) → length caps ≡ length sets → is_within_caps sets caps X ≡ true → (i : ℕ)
        → i < length sets → length (intersection X (get_or sets i [])) ≤ get_or caps i 0
    at [] caps same h i l = absurd (omega arith)
    at (S ∷ sets) [] same h i l = absurd (omega arith)
    at (S ∷ sets) (cap ∷ caps) same h zero l =
        leb-true (length (intersection X S)) cap (and_parts (leb (length (intersection X S)) cap) (is_within_caps sets caps X) h).0
    at (S ∷ sets) (cap ∷ caps) same h (suc i) l =
        at sets caps (omega arith) (and_parts (leb (length (intersection X S)) cap) (is_within_caps sets caps X) h).1 i (omega arith)

pub test_from-IsWithinCaps : (sets : List (List ℕ)) (caps X : List ℕ) → IsWithinCaps sets caps X → is_within_caps sets caps X ≡ true
test_from-IsWithinCaps (S ∷ sets) (cap ∷ caps) X w =
    and_from (leb (length (intersection X S)) cap) (is_within_caps sets caps X) (le-leb (length (intersection X S)) cap (w.at 0 (omega arith)))
    (test_from-IsWithinCaps sets caps X (record { at = λ i l. w.at (suc i) (omega arith) }))
test_from-IsWithinCaps _ caps X w = refl

-- ---- lists of sets

-- each set of the list passes
abbrev Each : (List ℕ → Type 0) → List (List ℕ) → Type 0
Each P [] = Unit {0}
Each P (S ∷ sets) = P S × Each P sets

-- no two of the list cross
abbrev Nested : List (List ℕ) → Type 0
Nested [] = Unit {0}
Nested (S ∷ sets) = Each (λ T. crosses S T ≡ false) sets × Nested sets

Nested-from_family : (sets : List (List ℕ)) → IsLaminarFamily sets → Nested sets
Nested-from_family [] family = tt
Nested-from_family (S ∷ sets) family = (
  each sets (λ j l. family.nested 0 (suc j) (omega arith) (omega arith)),
  Nested-from_family sets (record { nested = λ i j before l. family.nested (suc i) (suc j) (omega arith) (omega arith) }),
)
  where
    each : (others : List (List ℕ)) → ((j : ℕ) → j < length others → crosses S (get_or others j []) ≡ false)
        → Each (λ T. crosses S T ≡ false) others
    each [] h = tt
    each (T ∷ others) h = (h 0 (omega arith), each others (λ j l. h (suc j) (omega arith)))

-- ---- counts in the union of sets that do not cross

-- S has no member of T, if they do not cross and each has a member that the other has not
apart : (T S : List ℕ) (e f : ℕ) → crosses T S ≡ false → is_member e T ≡ true → is_member e S ≡ false → is_member f S ≡ true
    → is_member f T ≡ false → (x : ℕ) → is_member x T ≡ true → is_member x S ≡ false
apart T S e f never e_in e_out f_in f_out x x_in = false_from_ne_true _ (λ both. both_ways _ never (test_from-Crosses T S (record {
  shared = x;
  first = e;
  second = f;
  shared_in_first = x_in;
  shared_in_second = both;
  first_inside = e_in;
  first_outside = e_out;
  second_inside = f_in;
  second_outside = f_out;
})))

-- how many members of X stand in S, after T is taken away
counted_inside : (S T X : List ℕ) → IsRising X → IsSubset S T → intersection (minus X T) S ≡ []
counted_inside S T X rising inside =
    same_members _ _ (IsRising-intersection _ S (IsRising-minus X T rising)) IsRising-nil (λ k. grind (arith, set_members, inside.inside k))

counted_apart : (S T X : List ℕ) → IsRising X → ((x : ℕ) → is_member x T ≡ true → is_member x S ≡ false)
    → intersection (minus X T) S ≡ intersection X S
counted_apart S T X rising apart =
    same_members _ _ (IsRising-intersection _ S (IsRising-minus X T rising)) (IsRising-intersection X S rising)
    (λ k. let h = apart k in grind (arith, set_members))

counted_union : (T U X : List ℕ) → IsRising X
    → length (intersection X (union T U)) ≡ length (intersection X T) + length (intersection (minus X T) U)
counted_union T U X rising =
    let bits : (k : ℕ) → indicator (is_member k (intersection X (union T U))) + indicator (is_member k [])
    ≡ indicator (is_member k (intersection X T)) + indicator (is_member k (intersection (minus X T) U)) = λ k. grind (arith, set_members) in
    let both = sizes _ [] _ _ (IsRising-intersection X _ rising) IsRising-nil (IsRising-intersection X T rising)
    (IsRising-intersection _ U (IsRising-minus X T rising)) bits in
    omega arith

counted_within : (T U X : List ℕ) → IsRising X → IsSubset T U → intersection X (union T U) ≡ intersection X U
counted_within T U X rising inside =
    same_members _ _ (IsRising-intersection X _ rising) (IsRising-intersection X U rising) (λ k. grind (arith, set_members, inside.inside k))

-- J has at most as many members in S as I
abbrev AtMost : List ℕ → List ℕ → List ℕ → Type 0
AtMost I J S = length (intersection J S) ≤ length (intersection I S)

-- T lies in the union of the sets, or has a member outside each
lies_in_or : (T : List ℕ) (sets : List (List ℕ))
    → IsSubset T (family_union sets) ⊎ Each (λ S. (e : ℕ) × (is_member e T ≡ true) × (is_member e S ≡ false)) sets
unfolding family_union
lies_in_or T [] = inr tt
lies_in_or T (S ∷ sets) = elim (subset_or T S) [
  | inl inside ↦ inl (record { inside = λ k h. let m = inside.inside k h in grind (arith, set_members) })
  | inr found ↦ elim (lies_in_or T sets) [
    | inl inside ↦ inl (record { inside = λ k h. let m = inside.inside k h in grind (arith, set_members) })
    | inr none ↦ inr (found, none)
  ]
]

less_taken : (sets : List (List ℕ)) (T I J : List ℕ) → IsRising I → IsRising J → Each (λ S. crosses T S ≡ false) sets
    → Each (λ S. (e : ℕ) × (is_member e T ≡ true) × (is_member e S ≡ false)) sets → Each (AtMost I J) sets
    → Each (AtMost (minus I T) (minus J T)) sets
less_taken [] T I J r s never out most = tt
less_taken (S ∷ sets) T I J r s never out most = (
  elim (subset_or S T) [
    | inl inside ↦ (let none = ap length (counted_inside S T J s inside) in omega arith)
    | inr found ↦ (
        let away = apart T S out.0.0 found.0 never.0 out.0.1 out.0.2 found.1 found.2 in
        let first = ap length (counted_apart S T I r away) in
        let second = ap length (counted_apart S T J s away) in
        let before : length (intersection J S) ≤ length (intersection I S) = most.0 in
        omega arith)
  ],
  less_taken sets T I J r s never.1 out.1 most.1,
)

-- where no two sets cross, and J has in each at most as many members as I, so it has in all together
most_in_union : (sets : List (List ℕ)) (I J : List ℕ) → IsRising I → IsRising J → Nested sets → Each (AtMost I J) sets
    → AtMost I J (family_union sets)
unfolding family_union
most_in_union [] I J r s nested most =
    let none : intersection J [] ≡ [] = same_members _ _ (IsRising-intersection J [] s) IsRising-nil (λ k. grind (arith, set_members)) in
    omega (arith, ap length none)
most_in_union (T ∷ sets) I J r s nested most = elim (lies_in_or T sets) [
  | inl inside ↦ (
      let rest = most_in_union sets I J r s nested.1 most.1 in
      let first = ap length (counted_within T (family_union sets) I r inside) in
      let second = ap length (counted_within T (family_union sets) J s inside) in
      omega arith)
  | inr out ↦ (
      let rest = most_in_union sets (minus I T) (minus J T) (IsRising-minus I T r) (IsRising-minus J T s) nested.1
      (less_taken sets T I J r s nested.0 out most.1) in
      let first = counted_union T (family_union sets) I r in
      let second = counted_union T (family_union sets) J s in
      let here : length (intersection J T) ≤ length (intersection I T) = most.0 in
      omega arith)
]

-- ---- the sets that I fills

-- the sets of which I has at least their cap of members
unfoldable filled : List (List ℕ) → List ℕ → List ℕ → List (List ℕ)
filled [] caps I = []
filled (S ∷ sets) [] I = []
filled (S ∷ sets) (cap ∷ caps) I = cond (leb cap (length (intersection I S))) (S ∷ filled sets caps I) (filled sets caps I)

filled-each : (P : List ℕ → Type 0) (sets : List (List ℕ)) (caps I : List ℕ) → Each P sets → Each P (filled sets caps I)
unfolding filled
filled-each P (S ∷ sets) (cap ∷ caps) I all = elim (cases_Bool (leb cap (length (intersection I S)))) [
  | inl full ↦ rw full (all.0, filled-each P sets caps I all.1)
  | inr room ↦ rw room (filled-each P sets caps I all.1)
]
filled-each P _ caps I all = tt

filled-nested : (sets : List (List ℕ)) (caps I : List ℕ) → Nested sets → Nested (filled sets caps I)
unfolding filled
filled-nested (S ∷ sets) (cap ∷ caps) I nested = elim (cases_Bool (leb cap (length (intersection I S)))) [
  | inl full ↦ rw full (filled-each (λ T. crosses S T ≡ false) sets caps I nested.0, filled-nested sets caps I nested.1)
  | inr room ↦ rw room (filled-nested sets caps I nested.1)
]
filled-nested _ caps I nested = tt

filled-most : (sets : List (List ℕ)) (caps I J : List ℕ) → is_within_caps sets caps J ≡ true → Each (AtMost I J) (filled sets caps I)
unfolding filled
filled-most (S ∷ sets) (cap ∷ caps) I J h =
    let parts = and_parts (leb (length (intersection J S)) cap) (is_within_caps sets caps J) h in
    let low = leb-true (length (intersection J S)) cap parts.0 in
    elim (cases_Bool (leb cap (length (intersection I S)))) [
      | inl full ↦ rw full ((let high = leb-true cap (length (intersection I S)) full in omega arith), filled-most sets caps I J parts.1)
      | inr room ↦ rw room (filled-most sets caps I J parts.1)
    ]
filled-most _ caps I J h = tt

-- ---- sets within the caps

within-nil : (sets : List (List ℕ)) (caps : List ℕ) → is_within_caps sets caps [] ≡ true
within-nil (S ∷ sets) (cap ∷ caps) = and_from (leb (length (intersection [] S)) cap) (is_within_caps sets caps [])
    (le-leb (length (intersection [] S)) cap (let none = ap length (intersection-none S) in omega arith)) (within-nil sets caps)
within-nil _ caps = refl

within-subset : (sets : List (List ℕ)) (caps I J : List ℕ) → IsRising I → IsRising J → IsSubset I J → is_within_caps sets caps J ≡ true
    → is_within_caps sets caps I ≡ true
within-subset (S ∷ sets) (cap ∷ caps) I J r s inside h =
    let parts = and_parts (leb (length (intersection J S)) cap) (is_within_caps sets caps J) h in
    let low = leb-true (length (intersection J S)) cap parts.0 in
    let less : IsSubset (intersection I S) (intersection J S) = record { inside = λ k m. grind (arith, set_members, inside.inside k) } in
    let fewer = length-subset _ _ (IsRising-intersection I S r) (IsRising-intersection J S s) less in
    and_from (leb (length (intersection I S)) cap) (is_within_caps sets caps I) (le-leb (length (intersection I S)) cap (omega arith))
    (within-subset sets caps I J r s inside parts.1)
within-subset _ caps I J r s inside h = refl

-- how many members of X stand in S when x comes to X: one more where x stands in S, and otherwise as many as before
pub counted_more : (S X : List ℕ) (x : ℕ) → IsRising X → is_member x X ≡ false → is_member x S ≡ true
    → length (intersection (with_one X x) S) ≡ suc (length (intersection X S))
counted_more S X x rising out inside =
    let same : intersection (with_one X x) S ≡ with_one (intersection X S) x =
    same_members _ _ (IsRising-intersection _ S (IsRising-with_one X x rising)) (IsRising-with_one _ x (IsRising-intersection X S rising))
    (λ k. more k) in
    let new : is_member x (intersection X S) ≡ false = grind (arith, set_members) in
    ap length same ∙ length-with_one (intersection X S) x (IsRising-intersection X S rising) new
  where
    more : (k : ℕ) → is_member k (intersection (with_one X x) S) ≡ is_member k (with_one (intersection X S) x)
    more k = grind (arith, set_members)

pub counted_same : (S X : List ℕ) (x : ℕ) → IsRising X → is_member x S ≡ false → intersection (with_one X x) S ≡ intersection X S
counted_same S X x rising out =
    same_members _ _ (IsRising-intersection _ S (IsRising-with_one X x rising)) (IsRising-intersection X S rising) (λ k. grind (arith, set_members))

-- an element that stands in no filled set can be added
within-with_one : (sets : List (List ℕ)) (caps I : List ℕ) (x : ℕ) → IsRising I → is_member x I ≡ false
    → is_member x (family_union (filled sets caps I)) ≡ false → is_within_caps sets caps I ≡ true
    → is_within_caps sets caps (with_one I x) ≡ true
unfolding filled family_union
within-with_one [] caps I x r out free h = refl
within-with_one (S ∷ sets) [] I x r out free h = refl
within-with_one (S ∷ sets) (cap ∷ caps) I x r out free h =
    let parts = and_parts (leb (length (intersection I S)) cap) (is_within_caps sets caps I) h in
    let low = leb-true (length (intersection I S)) cap parts.0 in
    and_from (leb (length (intersection (with_one I x) S)) cap) (is_within_caps sets caps (with_one I x))
    (le-leb (length (intersection (with_one I x) S)) cap (elim (cases_Bool (is_member x S)) [
      | inl inside ↦ (
          let more = counted_more S I x r out inside in
          let room = free_here inside free in
          omega arith)
      | inr outside ↦ (let same = ap length (counted_same S I x r outside) in omega arith)
    ]))
    (within-with_one sets caps I x r out (free_later free) parts.1)
  where
    free_here : is_member x S ≡ true
        → is_member x (family_union (cond (leb cap (length (intersection I S))) (S ∷ filled sets caps I) (filled sets caps I))) ≡ false
        → length (intersection I S) < cap
    free_here inside free = elim (cases_lt (length (intersection I S)) cap) [
      | inl room ↦ room
      | inr full ↦ absurd (let here = rw (le-leb cap (length (intersection I S)) full, is_member-union, inside) at free in both_ways true here refl)
    ]

    free_later : is_member x (family_union (cond (leb cap (length (intersection I S))) (S ∷ filled sets caps I) (filled sets caps I))) ≡ false
        → is_member x (family_union (filled sets caps I)) ≡ false
    free_later free = elim (cases_Bool (leb cap (length (intersection I S)))) [
      | inl full ↦ (let here = rw full at free in grind (arith, set_members))
      | inr room ↦ rw room at free
    ]

-- ---- the laws

-- if each element of J outside I stands in U, then outside U the set J lies in I
rest_inside : (I J U : List ℕ) → ((k : ℕ) → is_member k J ≡ true → (not (is_member k I) && not (is_member k U)) ≡ false)
    → IsSubset (minus J U) (minus I U)
rest_inside I J U all = record { inside = λ k h. let a = all k in grind (arith, set_members) }

-- where J is larger than I, but has at most as many members in U as I, some element of J stands outside I and outside U
free_element : (I J U : List ℕ) → IsRising I → IsRising J → length I < length J → AtMost I J U
    → (x : ℕ) × (is_member x J ≡ true) × (is_member x I ≡ false) × (is_member x U ≡ false)
free_element I J U r s less most = elim (find_member (λ x. not (is_member x I) && not (is_member x U)) J) [
  | inl found ↦
      (let parts = and_parts (not (is_member found.0 I)) (not (is_member found.0 U)) found.2 in
      (found.0, found.1, not-true _ parts.0, not-true _ parts.1))
  | inr all ↦ absurd (
      let outside = length-subset (minus J U) (minus I U) (IsRising-minus J U s) (IsRising-minus I U r) (rest_inside I J U all) in
      let first = length-minus-intersection I U r in
      let second = length-minus-intersection J U s in
      omega arith)
]

-- the laws of laminar matroids
pub counted_laws : (n : ℕ) (sets : List (List ℕ)) (caps : List ℕ) → IsLaminarFamily sets → IsMatroid n (is_counted n sets caps)
counted_laws n sets caps family = record {
  empty = and_from (is_set n []) (is_within_caps sets caps []) (is_set-true n [] IsRising-nil tt) (within-nil sets caps);
  subsets = λ I J rising inside passes.
      let tests = and_parts (is_set n J) (is_within_caps sets caps J) passes in
      let set = IsSet-from_test n J tests.0 in
      and_from (is_set n I) (is_within_caps sets caps I) (is_set-true n I rising (AllBelow-subset n I J inside set.below))
      (within-subset sets caps I J rising set.rising inside tests.1);
  augmentation = λ I J passes others less.
      let first = and_parts (is_set n I) (is_within_caps sets caps I) passes in
      let second = and_parts (is_set n J) (is_within_caps sets caps J) others in
      let set = IsSet-from_test n I first.0 in
      let other = IsSet-from_test n J second.0 in
      let U = family_union (filled sets caps I) in
      let most = most_in_union (filled sets caps I) I J set.rising other.rising (filled-nested sets caps I (Nested-from_family sets family))
      (filled-most sets caps I J second.1) in
      let found = free_element I J U set.rising other.rising less most in
      record {
        element = found.0;
        inside = found.1;
        outside = found.2;
        augmented = and_from (is_set n (with_one I found.0)) (is_within_caps sets caps (with_one I found.0))
            (is_set-with_one n I found.0 set (AllBelow-member n J found.0 other.below found.1))
            (within-with_one sets caps I found.0 set.rising found.2 found.3 first.1);
      };
  sets = λ I passes. IsSet-from_test n I (and_parts (is_set n I) (is_within_caps sets caps I) passes).0;
}
