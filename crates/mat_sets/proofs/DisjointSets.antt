-- Members of a difference; what it means that a difference or an intersection of two sets is empty; and unions of disjoint sets.
use Rattle.mat_sets.proofs.Common.{◌≡◌, ℕ, ◌+◌, ◌<◌, true, false, not, eqb, List, [], ◌∷◌, length, inl, inr, refl, sym, ap, ◌∙◌, arith, cases_Bool, or_cases, and_parts, and_from, eqb-true, eq-eqb, false≢true, both_ways, false_from_ne_true, lt-ltb, not-true, cases_eq, ne_eqb, nil_from_length}
use Rattle.mat_sets.proofs.Common.{all_below, is_member, IsRising, IsSubset, with_one, minus, intersection, union, without_one}
use Rattle.mat_sets.proofs.Members.{set_members, same_members, is_member-with_one, is_member-head, is_member-minus, is_member-intersection, is_member-union, IsRising-nil, IsRising-with_one, IsRising-union, IsRising-minus, IsRising-intersection, IsRising-without_one}
use Rattle.mat_sets.proofs.Subsets.{length-subset, union-IsSubset}
use Rattle.mat_sets.proofs.Cardinalities.{length-union_apart, length-minus-intersection}
use Rattle.mat_sets.proofs.Equalities.{intersection-commute}
use Rattle.mat_sets.proofs.Ground.{is_member-all_below}

-- a list with no members is empty
pub no_members : (xs : List ℕ) → ((x : ℕ) → is_member x xs ≡ true → ⊥) → xs ≡ []
no_members [] none = refl
no_members (x ∷ xs) none = absurd (none x (is_member-head x xs))

-- a list whose length is 0 has no members
pub no_member : (xs : List ℕ) (x : ℕ) → length xs ≡ 0 → is_member x xs ≡ false
no_member xs x empty = ap (is_member x) (nil_from_length xs empty)

pub none_in : (xs : List ℕ) (x : ℕ) → eqb (length xs) 0 ≡ true → is_member x xs ≡ true → ⊥
none_in xs x h m = both_ways _ (no_member xs x (eqb-true (length xs) 0 h)) m

-- the members of a difference
pub minus_parts : (X Y : List ℕ) (x : ℕ) → is_member x (minus X Y) ≡ true → (is_member x X ≡ true) × (is_member x Y ≡ false)
minus_parts X Y x m = let both = and_parts (is_member x X) (not (is_member x Y)) (sym (is_member-minus x X Y) ∙ m) in (both.0, not-true _ both.1)

pub minus_from : (X Y : List ℕ) (x : ℕ) → is_member x X ≡ true → is_member x Y ≡ false → is_member x (minus X Y) ≡ true
minus_from X Y x m out = is_member-minus x X Y ∙ and_from (is_member x X) (not (is_member x Y)) m (ap not out)

-- what is below n and not in the complement is in the set
pub in_complement : (n : ℕ) (B : List ℕ) (x : ℕ) → x < n → is_member x (minus (all_below n) B) ≡ false → is_member x B ≡ true
in_complement n B x small out = elim (cases_Bool (is_member x B)) [
  | inl here ↦ here
  | inr gone ↦ absurd (both_ways _ out (minus_from (all_below n) B x (is_member-all_below x n ∙ lt-ltb x n small) gone))
]

-- disjoint sets share no member
pub apart_at : (X Y : List ℕ) → intersection X Y ≡ [] → (x : ℕ) → is_member x X ≡ true → is_member x Y ≡ false
apart_at X Y none x m = false_from_ne_true _ (λ k. false≢true (sym (ap (is_member x) none)
    ∙ is_member-intersection x X Y ∙ and_from (is_member x X) (is_member x Y) m k))

pub apart_from : (X Y : List ℕ) → ((x : ℕ) → is_member x X ≡ true → is_member x Y ≡ false) → intersection X Y ≡ []
apart_from X Y apart = no_members _ (λ x m.
    let both = and_parts (is_member x X) (is_member x Y) (sym (is_member-intersection x X Y) ∙ m) in both_ways _ (apart x both.0) both.1)

-- a list is a subset exactly where it has no members outside
pub inside_test : (X Y : List ℕ) → eqb (length (minus X Y)) 0 ≡ true → IsSubset X Y
inside_test X Y h = record {
  inside = λ x m. elim (cases_Bool (is_member x Y)) [
    | inl here ↦ here
    | inr out ↦ absurd (none_in (minus X Y) x h (minus_from X Y x m out))
  ];
}

pub inside_test_from : (X Y : List ℕ) → IsSubset X Y → eqb (length (minus X Y)) 0 ≡ true
inside_test_from X Y s = eq-eqb _ 0 (ap length (no_members (minus X Y) (λ x m. let parts = minus_parts X Y x m in both_ways _ parts.1 (s.inside x parts.0))))

-- one more element outside Y
pub apart_with : (X Y : List ℕ) (x : ℕ) → intersection X Y ≡ [] → is_member x Y ≡ false → intersection (with_one X x) Y ≡ []
apart_with X Y x none out = apart_from (with_one X x) Y (λ y m. elim (or_cases (eqb y x) (is_member y X) (sym (is_member-with_one y x X) ∙ m)) [
  | inl same ↦ ap (λ z. is_member z Y) (eqb-true y x same) ∙ out
  | inr k ↦ apart_at X Y none y k
])

-- the size of a union of any list with a set that is apart from it
pub length-union_list : (X B : List ℕ) → IsRising B → ((x : ℕ) → is_member x X ≡ true → is_member x B ≡ false)
    → length (union X B) ≡ length (union X []) + length B
length-union_list X B r apart =
    ap length (same_members _ _ (IsRising-union X B r) (IsRising-union (union X []) B r) (λ k. grind (arith, set_members)))
    ∙ length-union_apart (union X []) B (IsRising-union X [] IsRising-nil) r (λ x m. apart x (listed x X m))
  where
    listed : (x : ℕ) (X : List ℕ) → is_member x (union X []) ≡ true → is_member x X ≡ true
    listed x X m = elim (or_cases (is_member x X) false (sym (is_member-union x X []) ∙ m)) [ inl a ↦ a | inr a ↦ absurd (false≢true a) ]

-- what was put in is a member
pub with_one-holds : (a : List ℕ) (x : ℕ) → is_member x (with_one a x) ≡ true
with_one-holds a x = grind (arith, set_members)

-- one more element in the first set
pub union-with_one_left : (a b : List ℕ) (x : ℕ) → IsRising b → union (with_one a x) b ≡ with_one (union a b) x
union-with_one_left a b x s = same_members _ _ (IsRising-union (with_one a x) b s) (IsRising-with_one _ x (IsRising-union a b s)) (λ k. grind (arith, set_members))

-- a member less of the first set
pub without_one-union : (X B : List ℕ) (y : ℕ) → IsRising B → is_member y B ≡ false → union (without_one X y) B ≡ without_one (union X B) y
without_one-union X B y r out =
    same_members _ _ (IsRising-union (without_one X y) B r) (IsRising-without_one (union X B) y (IsRising-union X B r)) (λ k. members k)
  where
    members : (k : ℕ) → is_member k (union (without_one X y) B) ≡ is_member k (without_one (union X B) y)
    members k = elim (cases_eq k y) [
      | inl same ↦ (let b : is_member k B ≡ false = ap (λ z. is_member z B) same ∙ out in grind (arith, set_members))
      | inr other ↦ (let e = ne_eqb k y other in grind (arith, set_members))
    ]

-- where C is disjoint from J, and J has more elements than I, what holds the members of C and of J outside I has more than C: those of C
-- that are left out lie in I and outside J, and these are fewer than those of J outside I
pub larger_than : (I J C B : List ℕ) → IsRising I → IsRising J → IsRising C → IsRising B → intersection C J ≡ [] → IsSubset (minus J I) B
    → IsSubset (minus C I) B → length I < length J → length C < length B
larger_than I J C B i j c b none new old less =
    let both = length-subset (union (minus J I) (minus C I)) B (IsRising-union (minus J I) (minus C I) (IsRising-minus C I c)) b
    (union-IsSubset (minus J I) (minus C I) B new old) in
    let sum = length-union_apart (minus J I) (minus C I) (IsRising-minus J I j) (IsRising-minus C I c) apart in
    let of_J = length-minus-intersection J I j in
    let of_I = length-minus-intersection I J i in
    let of_C = length-minus-intersection C I c in
    let shared = ap length (intersection-commute I J i j) in
    let lost = length-subset (intersection C I) (minus I J) (IsRising-intersection C I c) (IsRising-minus I J i) (record { inside = left_out }) in
    omega arith
  where
    apart : (x : ℕ) → is_member x (minus J I) ≡ true → is_member x (minus C I) ≡ false
    apart x m = false_from_ne_true _ (λ k. both_ways _ (apart_at C J none x (minus_parts C I x k).0) (minus_parts J I x m).0)

    left_out : (x : ℕ) → is_member x (intersection C I) ≡ true → is_member x (minus I J) ≡ true
    left_out x m =
        let sides = and_parts (is_member x C) (is_member x I) (sym (is_member-intersection x C I) ∙ m) in
        minus_from I J x sides.1 (apart_at C J none x sides.0)
