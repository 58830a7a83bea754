-- Families of sets: how often a number stands in them, their union and their sums.
use Rattle.mat_sets.proofs.Common.{Bool, List, [], ap, arith, false, get_or, inl, inr, length, pos, refl, suc, sym, true, zero, ℕ, ℤ, ◌++◌, ◌+◌, ◌<◌, ◌||◌, ◌∙◌, ◌∷◌, ◌≡◌, ◌≢◌, ◌≤◌, and_from, cases_Bool, false≢true, or_cases, or_left, or_right, both_ways, cases_lt, cases_order, false_from_ne_true}
use Rattle.mat_sets.proofs.Common.{not_from_false, ints, get_or_past, AllRising, AreDisjoint, family_sum, family_union, indicator, multiplicity, AllBelow, IsRising, IsSet, intersection, is_member, minus, sum_of}
use Rattle.std.proofs.lemmas.List.Sums.{sum_by-cons}
use Rattle.std.specs.List.{sum_by, All}
use Rattle.mat_sets.proofs.Cardinalities.{length-minus-intersection}
use Rattle.mat_sets.proofs.Ground.{AllBelow-from_members, AllBelow-member, below_member}
use Rattle.mat_sets.proofs.Members.{IsRising-minus, IsRising-nil, IsRising-union, is_member-intersection, is_member-minus, is_member-union, some_from_member}
use Rattle.mat_sets.proofs.Sums.{family_balance, sum_of-ones}

-- ---- how often a number stands

pub multiplicity-append : (x : ℕ) (family others : List (List ℕ))
    → multiplicity x (family ++ others) ≡ multiplicity x family + multiplicity x others
unfolding multiplicity
multiplicity-append x [] others = omega arith
multiplicity-append x (a ∷ family) others = omega (arith, multiplicity-append x family others)

-- a member of one of the sets
pub multiplicity-at : (x : ℕ) (family : List (List ℕ)) (i : ℕ) → i < length family
    → is_member x (get_or family i []) ≡ true → 0 < multiplicity x family
unfolding multiplicity
multiplicity-at x [] i h m = absurd (omega arith)
multiplicity-at x (a ∷ family) zero h m = let e : indicator (is_member x a) ≡ 1 = rw m in omega (arith, e)
multiplicity-at x (a ∷ family) (suc i) h m = omega (arith, multiplicity-at x family i (omega arith) m)

-- what stands somewhere is a member of one of the sets
pub multiplicity-gives : (x : ℕ) (family : List (List ℕ)) → 0 < multiplicity x family
    → (i : ℕ) × (i < length family) × (is_member x (get_or family i []) ≡ true)
unfolding multiplicity
multiplicity-gives x [] some = absurd (omega arith)
multiplicity-gives x (a ∷ family) some = elim (cases_Bool (is_member x a)) [
  | inl here ↦ (0, omega arith, here)
  | inr out ↦ (let none : indicator (is_member x a) ≡ 0 = rw out refl in
      let w = multiplicity-gives x family (omega (arith, none)) in
      let l = w.1 in
      (suc w.0, omega arith, w.2))
]

-- what is in none of the sets stands nowhere
pub multiplicity-nowhere : (x : ℕ) (family : List (List ℕ)) → ((i : ℕ) → i < length family → is_member x (get_or family i []) ≡ true → ⊥)
    → multiplicity x family ≡ 0
unfolding multiplicity
multiplicity-nowhere x [] out = refl
multiplicity-nowhere x (a ∷ family) out =
    let first : is_member x a ≡ false = false_from_ne_true _ (out 0 (omega arith)) in
    let none : indicator (is_member x a) ≡ 0 = rw first refl in
    let rest = multiplicity-nowhere x family (λ i l. out (suc i) (omega arith)) in
    omega (arith, none, rest)

-- and so does what is not below n, where the sets are on n elements
pub multiplicity-past : (n x : ℕ) (family : List (List ℕ)) → n ≤ x → All (IsSet n) family → multiplicity x family ≡ 0
multiplicity-past n x family past sets = multiplicity-nowhere x family (λ i l m. let below = below_member (sets i [] l) m in omega (arith, past))

-- ---- the union of a family

pub IsRising-family_union : (family : List (List ℕ)) → IsRising (family_union family)
unfolding family_union
IsRising-family_union [] = IsRising-nil
IsRising-family_union (a ∷ family) = IsRising-union a (family_union family) (IsRising-family_union family)

pub family_union-gives : (x : ℕ) (family : List (List ℕ)) → is_member x (family_union family) ≡ true
    → (i : ℕ) × (i < length family) × (is_member x (get_or family i []) ≡ true)
unfolding family_union
family_union-gives x [] m = absurd (false≢true m)
family_union-gives x (a ∷ family) m = elim (or_cases (is_member x a) (is_member x (family_union family)) (sym (is_member-union x a (family_union family)) ∙ m)) [
  | inl h ↦ (0, omega arith, h)
  | inr h ↦ (let w = family_union-gives x family h in let l = w.1 in (suc w.0, omega arith, w.2))
]

pub family_union-from : (x : ℕ) (family : List (List ℕ)) (i : ℕ) → i < length family
    → is_member x (get_or family i []) ≡ true → is_member x (family_union family) ≡ true
unfolding family_union
family_union-from x [] i h m = absurd (omega arith)
family_union-from x (a ∷ family) zero h m = is_member-union x a (family_union family) ∙ or_left (is_member x a) (is_member x (family_union family)) m
family_union-from x (a ∷ family) (suc i) h m = is_member-union x a (family_union family) ∙ or_right (is_member x a) (is_member x (family_union family)) (family_union-from x family i (omega arith) m)

pub AllBelow-family_union : (n : ℕ) (family : List (List ℕ))
    → ((i : ℕ) → i < length family → AllBelow n (get_or family i [])) → AllBelow n (family_union family)
AllBelow-family_union n family h = AllBelow-from_members n _ (λ x m. let w = family_union-gives x family m in AllBelow-member n _ x (h w.0 w.1) w.2)

pub IsSet-family_union : (n : ℕ) (family : List (List ℕ)) → All (IsSet n) family → IsSet n (family_union family)
IsSet-family_union n family sets = record {
  rising = IsRising-family_union family;
  below = AllBelow-family_union n family (λ i l. (sets i [] l).below);
}

-- ---- disjoint sets

-- where no number stands in two of the sets, it stands as often as in the union
pub multiplicity-family_union : (x : ℕ) (family : List (List ℕ)) → multiplicity x family ≤ 1
    → multiplicity x family ≡ indicator (is_member x (family_union family))
unfolding multiplicity family_union
multiplicity-family_union x [] h = refl
multiplicity-family_union x (a ∷ family) h =
    one_more (is_member x a) (is_member x (family_union family)) (multiplicity x family) h (multiplicity-family_union x family (omega arith)) ∙ ap indicator (sym (is_member-union x a (family_union family)))
  where
    one_more : (b c : Bool) (m : ℕ) → indicator b + m ≤ 1 → m ≡ indicator c → indicator b + m ≡ indicator (b || c)
    one_more true c m h e = omega arith
    one_more false c m h e = omega arith

pub family_sum-family_union : (f : ℕ → ℤ) (family : List (List ℕ)) → AllRising family → AreDisjoint family
    → family_sum f family ≡ sum_of f (family_union family)
unfolding family_sum multiplicity
family_sum-family_union f family r d =
    let e = family_balance f family (family_union family ∷ []) r (IsRising-family_union family, tt) (λ x. let m = multiplicity-family_union x family (d.once x) in omega arith) in
    omega (arith, ints, e)

-- one more set, which shares no member with the others
pub AreDisjoint-cons : (a : List ℕ) (family : List (List ℕ)) → AreDisjoint family
    → ((x : ℕ) → is_member x a ≡ true → is_member x (family_union family) ≡ false) → AreDisjoint (a ∷ family)
unfolding multiplicity
AreDisjoint-cons a family d apart = record { once = λ x. one_more (is_member x a) (is_member x (family_union family)) (multiplicity x family) (apart x) (multiplicity-family_union x family (d.once x)) }
  where
    one_more : (b c : Bool) (m : ℕ) → (b ≡ true → c ≡ false) → m ≡ indicator c → indicator b + m ≤ 1
    one_more true true m h e = absurd (both_ways true (h refl) refl)
    one_more true false m h e = omega (arith, e)
    one_more false true m h e = omega (arith, e)
    one_more false false m h e = omega (arith, e)

pub AreDisjoint-tail : (a : List ℕ) (family : List (List ℕ)) → AreDisjoint (a ∷ family) → AreDisjoint family
unfolding multiplicity
AreDisjoint-tail a family d = record { once = λ x. let h = d.once x in omega arith }

-- two different sets of the family share no member
pub AreDisjoint-apart : (family : List (List ℕ)) (i j x : ℕ) → AreDisjoint family → i < j → j < length family
    → is_member x (get_or family i []) ≡ true → is_member x (get_or family j []) ≡ false
unfolding multiplicity
AreDisjoint-apart [] i j x d h l m = absurd (omega arith)
AreDisjoint-apart (a ∷ family) i zero x d h l m = absurd (omega arith)
AreDisjoint-apart (a ∷ family) zero (suc j) x d h l m = false_from_ne_true _ (λ q.
    let once = d.once x in
    let later = multiplicity-at x family j (omega arith) q in
    let here : indicator (is_member x a) ≡ 1 = rw m in
    absurd (omega arith))
AreDisjoint-apart (a ∷ family) (suc i) (suc j) x d h l m = AreDisjoint-apart family i j x (AreDisjoint-tail a family d) (omega arith) (omega arith) m

-- a member of one of disjoint sets is in no other
pub disjoint-apart : (sets : List (List ℕ)) (i j x : ℕ) → AreDisjoint sets → i ≢ j
    → is_member x (get_or sets i []) ≡ true → is_member x (get_or sets j []) ≡ false
disjoint-apart sets i j x apart other h = false_from_ne_true _ (λ k. elim (cases_order i j) [
  | inl same ↦ other same
  | inr (inl before) ↦ both_ways _ (AreDisjoint-apart sets i j x apart before (place j k) h) k
  | inr (inr after) ↦ both_ways _ (AreDisjoint-apart sets j i x apart after (place i h) k) h
])
  where
    place : (i : ℕ) → is_member x (get_or sets i []) ≡ true → i < length sets
    place i h = elim (cases_lt i (length sets)) [
      | inl inside ↦ inside
      | inr past ↦ absurd (both_ways false refl (sym (ap (is_member x) (get_or_past sets i [] past)) ∙ h))
    ]

-- ---- sums

-- the sum of the sizes
pub family_sum-ones : (family : List (List ℕ)) → family_sum (λ k. pos 1) family ≡ pos (sum_by length family)
unfolding family_sum
family_sum-ones [] = refl
family_sum-ones (a ∷ family) = rw (sum_by-cons length a family) (omega (arith, ints, sum_of-ones a, family_sum-ones family))

-- ---- sizes

-- a set that meets each of disjoint sets has at least as many members as there are of them
pub length-meeting : (S : List ℕ) (family : List (List ℕ)) → IsRising S → AreDisjoint family
    → ((i : ℕ) → i < length family → (x : ℕ) × (is_member x S ≡ true) × (is_member x (get_or family i []) ≡ true)) → length family ≤ length S
length-meeting S [] r d h = omega arith
length-meeting S (a ∷ family) r d h =
    let split = length-minus-intersection S a r in
    let first = h 0 (omega arith) in
    let some = some_from_member first.0 (intersection S a) (is_member-intersection first.0 S a ∙ and_from _ _ first.1 first.2) in
    let rest = length-meeting (minus S a) family (IsRising-minus S a r) (AreDisjoint-tail a family d)
    (λ i l. let w = h (suc i) (omega arith) in (
      w.0,
      is_member-minus w.0 S a ∙ and_from _ _ w.1 (not_from_false _ (disjoint-apart (a ∷ family) (suc i) 0 w.0 d (λ e. omega arith) w.2)),
      w.2,
    )) in
    omega arith
