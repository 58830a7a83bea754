-- Tests that look through finitely many numbers, lists or subsets: where the test holds there is one that passes, and
-- where it fails none does. The set of the numbers below n that pass.
use Rattle.mat_sets.proofs.Common.{Bool, List, None, Option, Some, [], ap, arith, eqb, false, inl, inr, length, ltb, refl, subst, suc, sym, true, zero, ℕ, ◌&&◌, ◌+◌, ◌||◌, ◌<◌, ◌∙◌, ◌∷◌, ◌≡◌, ◌≤◌, and_from, and_parts, and_right, both_ways, cases_eq, cases_lt, false_from_ne_true, false≢true, le-ltb}
use Rattle.mat_sets.proofs.Common.{lt-ltb, ltb-true, ne_eqb, or_cases, or_left, or_right, nat_tests, IsNextFrom, some_below, some_list, some_subset, those_below, AllBelow, IsRising, IsSet, IsSubset, RisesFrom, all_below, is_member, with_one}
use Rattle.std.proofs.Math.Numerals.{add-one}
use Rattle.mat_sets.proofs.Cardinalities.{length-with_one}
use Rattle.mat_sets.proofs.Ground.{IsRising-all_below, IsSet-from, IsSubset-all_below, is_member-all_below, length-all_below}
use Rattle.mat_sets.proofs.Members.{IsRising-with_one, RisesFrom-filter, RisesFrom-weaken, is_member-filter, is_member-head, member_from, same_members}
use Rattle.mat_sets.proofs.Subsets.{IsSubset-refl, length-subset, with_one-IsSubset}

-- ---- numbers

pub some_below_gives : (n : ℕ) (test : ℕ → Bool) → some_below n test ≡ true → (x : ℕ) × (x < n) × (test x ≡ true)
unfolding some_below
some_below_gives zero test h = absurd (false≢true h)
some_below_gives (suc n) test h = elim (or_cases (test n) (some_below n test) h)
    [ inl a ↦ (n, omega arith, a) | inr b ↦ (let w = some_below_gives n test b in let l = w.1 in (w.0, omega arith, w.2)) ]

pub some_below_from : (n x : ℕ) (test : ℕ → Bool) → x < n → test x ≡ true → some_below n test ≡ true
unfolding some_below
some_below_from zero x test l h = absurd (omega arith)
some_below_from (suc n) x test l h = elim (cases_eq x n)
    [ inl e ↦ or_left (test n) (some_below n test) (sym (ap test e) ∙ h) | inr d ↦ or_right (test n) (some_below n test) (some_below_from n x test (omega arith) h) ]

pub some_below_none : (n x : ℕ) (test : ℕ → Bool) → some_below n test ≡ false → x < n → test x ≡ false
some_below_none n x test h l = false_from_ne_true (test x) (λ p. both_ways _ h (some_below_from n x test l p))

-- a search that has found none yet
pub some_below-zero : (test : ℕ → Bool) → some_below 0 test ≡ false
unfolding some_below
some_below-zero test = refl

-- one number more
pub some_below-more : (n : ℕ) (test : ℕ → Bool) → some_below (n + 1) test ≡ (test n || some_below n test)
unfolding some_below
some_below-more n test = rw (add-one n) refl

one_more : (n : ℕ) (test : ℕ → Bool) → test n ≡ false → some_below n test ≡ false → some_below (suc n) test ≡ false
unfolding some_below
one_more n test h none = ap (λ b. b || some_below n test) h ∙ none

pub some_below-next : (n : ℕ) (test : ℕ → Bool) → test n ≡ false → some_below n test ≡ false → some_below (n + 1) test ≡ false
some_below-next n test h none =
    let next : suc n ≡ n + 1 = omega arith in
    subst (λ m. some_below m test ≡ false) next (one_more n test h none)

-- a test that answers the same
pub IsNextFrom-same : (f g : ℕ → Bool) (from : ℕ) (found : Option ℕ) → ((x : ℕ) → f x ≡ g x) → IsNextFrom f from found → IsNextFrom g from found
IsNextFrom-same f g from None same h = λ x l. sym (same x) ∙ h x l
IsNextFrom-same f g from (Some y) same h = record {
  reaches = h.reaches;
  passes = sym (same y) ∙ h.passes;
  none_before = λ x l m. sym (same x) ∙ h.none_before x l m;
}

-- ---- lists

pub some_list_gives : (k n : ℕ) (test : List ℕ → Bool) → some_list k n test ≡ true
    → (xs : List ℕ) × (length xs ≡ k) × AllBelow n xs × (test xs ≡ true)
unfolding some_list
some_list_gives zero n test h = ([], refl, tt, h)
some_list_gives (suc k) n test h =
    let a = some_below_gives n (λ x. some_list k n (λ xs. test (x ∷ xs))) h in
    let b = some_list_gives k n (λ xs. test (a.0 ∷ xs)) a.2 in
    (a.0 ∷ b.0, ap suc b.1, (a.1, b.2), b.3)

pub some_list_from : (n : ℕ) (xs : List ℕ) (test : List ℕ → Bool) → AllBelow n xs → test xs ≡ true
    → some_list (length xs) n test ≡ true
unfolding some_list
some_list_from n [] test b h = h
some_list_from n (x ∷ xs) test b h = some_below_from n x (λ y. some_list (length xs) n (λ ys. test (y ∷ ys))) b.0 (some_list_from n xs (λ ys. test (x ∷ ys)) b.1 h)

-- ---- subsets

-- what rises from above x and lies in x ∷ xs lies in xs
pub within_tail : (x : ℕ) (xs a : List ℕ) → RisesFrom (suc x) a → IsSubset a (x ∷ xs) → IsSubset a xs
within_tail x xs a r s = record { inside = λ k h. let above : suc x ≤ k = member_from (suc x) k a r h in let m = s.inside k h in rw (ne_eqb k x (omega arith)) at m }

subset_found : (lo : ℕ) (xs : List ℕ) (test : List ℕ → Bool) → RisesFrom lo xs → some_subset xs test ≡ true
    → (a : List ℕ) × RisesFrom lo a × IsSubset a xs × (test a ≡ true)
unfolding some_subset
subset_found lo [] test r h = ([], tt, IsSubset-refl [], h)
subset_found lo (x ∷ xs) test r h = elim (or_cases (some_subset xs (λ a. test (x ∷ a))) (some_subset xs test) h) [
  | inl p ↦ (let w = subset_found (suc x) xs (λ a. test (x ∷ a)) r.1 p in
      (x ∷ w.0, (r.0, w.1), record { inside = λ k m. (let q = w.2.inside k in both_heads x k xs w.0 q m) }, w.3))
  | inr p ↦ (let w = subset_found (suc x) xs test r.1 p in
      let l : lo ≤ x = r.0 in
      (w.0, RisesFrom-weaken lo (suc x) w.0 (omega arith) w.1, record { inside = λ k m. or_right (eqb k x) (is_member k xs) (w.2.inside k m) }, w.3))
]
  where
    both_heads : (x k : ℕ) (xs a : List ℕ) → (is_member k a ≡ true → is_member k xs ≡ true)
        → is_member k (x ∷ a) ≡ true → is_member k (x ∷ xs) ≡ true
    both_heads x k xs a q m = grind (arith, nat_tests)

pub some_subset_gives : (xs : List ℕ) (test : List ℕ → Bool) → IsRising xs → some_subset xs test ≡ true
    → (a : List ℕ) × IsRising a × IsSubset a xs × (test a ≡ true)
some_subset_gives xs test r h = let w = subset_found 0 xs test r.rises h in (w.0, record { rises = w.1 }, w.2, w.3)

subset_counts : (lo : ℕ) (xs a : List ℕ) (test : List ℕ → Bool) → RisesFrom lo xs → RisesFrom lo a → IsSubset a xs
    → test a ≡ true → some_subset xs test ≡ true
unfolding some_subset
subset_counts lo [] [] test r q s h = h
subset_counts lo [] (y ∷ ys) test r q s h = absurd (false≢true (s.inside y (is_member-head y ys)))
subset_counts lo (x ∷ xs) [] test r q s h = or_right (some_subset xs (λ a. test (x ∷ a))) (some_subset xs test) (subset_counts (suc x) xs [] test r.1 tt (record { inside = λ k m. absurd (false≢true m) }) h)
subset_counts lo (x ∷ xs) (y ∷ ys) test r q s h =
    elim (cases_eq y x) [
      | inl e ↦
          let rises : RisesFrom (suc x) ys = subst (λ z. RisesFrom (suc z) ys) e q.1 in
          let tail : IsSubset ys (x ∷ xs) = record { inside = λ k m. s.inside k (or_right (eqb k y) (is_member k ys) m) } in
          or_left (some_subset xs (λ a. test (x ∷ a))) (some_subset xs test)
          (subset_counts (suc x) xs ys (λ a. test (x ∷ a)) r.1 rises (within_tail x xs ys rises tail) (ap (λ z. test (z ∷ ys)) (sym e) ∙ h))
      | inr d ↦
          let here : is_member y xs ≡ true = rw (ne_eqb y x d) at (s.inside y (is_member-head y ys)) in
          let rises : RisesFrom (suc x) (y ∷ ys) = (member_from (suc x) y xs r.1 here, q.1) in
          or_right (some_subset xs (λ a. test (x ∷ a))) (some_subset xs test) (subset_counts (suc x) xs (y ∷ ys) test r.1 rises (within_tail x xs (y ∷ ys) rises s) h)
    ]

pub some_subset_from : (xs a : List ℕ) (test : List ℕ → Bool) → IsRising xs → IsRising a → IsSubset a xs
    → test a ≡ true → some_subset xs test ≡ true
some_subset_from xs a test r q s h = subset_counts 0 xs a test r.rises q.rises s h

pub some_subset_none : (xs a : List ℕ) (test : List ℕ → Bool) → some_subset xs test ≡ false → IsRising xs → IsRising a
    → IsSubset a xs → test a ≡ false
some_subset_none xs a test h r q s = false_from_ne_true (test a) (λ p. both_ways _ h (some_subset_from xs a test r q s p))

-- ---- the numbers below n that pass

pub is_member-those_below : (x n : ℕ) (test : ℕ → Bool) → is_member x (those_below n test) ≡ (ltb x n && test x)
unfolding those_below
is_member-those_below x n test = is_member-filter test x (all_below n) ∙ ap (λ b. b && test x) (is_member-all_below x n)

pub IsSet-those_below : (n : ℕ) (test : ℕ → Bool) → IsSet n (those_below n test)
unfolding those_below
IsSet-those_below n test = IsSet-from n _ (record { rises = RisesFrom-filter test 0 (all_below n) (IsRising-all_below n).rises })
    (λ x m. ltb-true x n (and_left (ltb x n) (test x) (sym (is_member-those_below x n test) ∙ m)))
  where
    and_left : (a b : Bool) → (a && b) ≡ true → a ≡ true
    and_left true b h = refl
    and_left false b h = h

-- tests that agree below n pick the same numbers
pub those_below-same : (n : ℕ) (f g : ℕ → Bool) → ((x : ℕ) → x < n → f x ≡ g x) → those_below n f ≡ those_below n g
those_below-same n f g h = same_members _ _ (IsSet-those_below n f).rising (IsSet-those_below n g).rising
    (λ x. is_member-those_below x n f ∙ elim (cases_lt x n) [
      | inl l ↦ ap (λ b. ltb x n && b) (h x l)
      | inr o ↦ rw (le-ltb x n o)
    ] ∙ sym (is_member-those_below x n g))

-- what holds of fewer numbers has a smaller set
pub length-those_below : (n : ℕ) (few many : ℕ → Bool) → ((x : ℕ) → x < n → few x ≡ true → many x ≡ true)
    → length (those_below n few) ≤ length (those_below n many)
length-those_below n few many h =
    length-subset _ _ (IsSet-those_below n few).rising (IsSet-those_below n many).rising (record { inside = λ x m. narrower n few many x (h x) (sym (is_member-those_below x n few) ∙ m) })
  where
    narrower : (n : ℕ) (few many : ℕ → Bool) (x : ℕ) → (x < n → few x ≡ true → many x ≡ true)
        → (ltb x n && few x) ≡ true → is_member x (those_below n many) ≡ true
    narrower n few many x h m = let p = and_parts (ltb x n) (few x) m in is_member-those_below x n many ∙ and_from (ltb x n) (many x) p.0 (h (ltb-true x n p.0) p.1)

pub length-those_below_less : (n x : ℕ) (few many : ℕ → Bool) → ((y : ℕ) → y < n → few y ≡ true → many y ≡ true)
    → x < n → few x ≡ false → many x ≡ true → length (those_below n few) < length (those_below n many)
length-those_below_less n x few many h l f m =
    let a = those_below n few in
    let b = those_below n many in
    let r : IsRising a = (IsSet-those_below n few).rising in
    let out : is_member x a ≡ false = is_member-those_below x n few ∙ ap (λ z. ltb x n && z) f ∙ and_right (ltb x n) false refl in
    let sub : IsSubset (with_one a x) b = with_one-IsSubset a b x (record { inside = λ y k. (let p = and_parts (ltb y n) (few y) (sym (is_member-those_below y n few) ∙ k) in is_member-those_below y n many ∙ and_from (ltb y n) (many y) p.0 (h y (ltb-true y n p.0) p.1)) })
    (is_member-those_below x n many ∙ and_from (ltb x n) (many x) (lt-ltb x n l) m) in
    omega (arith, length-subset (with_one a x) b (IsRising-with_one a x r) (IsSet-those_below n many).rising sub, length-with_one a x r out)

pub length-those_below_most : (n : ℕ) (test : ℕ → Bool) → length (those_below n test) ≤ n
length-those_below_most n test =
    let s = IsSet-those_below n test in
    omega (arith, length-subset _ _ s.rising (IsRising-all_below n) (IsSubset-all_below n _ s.below), length-all_below n)
