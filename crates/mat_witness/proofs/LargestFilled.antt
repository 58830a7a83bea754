-- The largest filled set that holds an element: of the listed sets that hold it, each two are nested, so that it contains all of them that are
-- filled; and it is the largest for each of its own members.
use Rattle.mat_witness.proofs.Common.{◌≡◌, ◌≢◌, ℕ, zero, suc, ◌<◌, ◌≤◌, true, false, ◌&&◌, Option, Some, None, List, [], length, get_or, inl, inr, sym, ap, subst, arith, and_from, and_parts, both_ways, cases_Bool, cases_eq, cases_lt, cases_order, le-ltb, lt-ltb, is_member, IsRising, IsSubset}
use Rattle.mat_witness.proofs.Common.{some_from_member, same_size_subset, subset_or, test_from-Crosses, is_filled, larger_named, largest_filled}
use Rattle.mat_count.specs.Laminar.{Crosses, IsLaminarFamily}

-- ---- which set is the largest

-- of the first m sets the one at place j is filled and holds x, and no such one is larger, nor before it as large
pub record IsLargest (sets : List (List ℕ)) (caps I : List ℕ) (m x j : ℕ) : Type 0 where
  pub before : j < m
  pub filled : is_filled sets caps I j ≡ true
  pub holds : is_member x (get_or sets j []) ≡ true
  pub largest : (i : ℕ) → i < m → is_filled sets caps I i ≡ true → is_member x (get_or sets i []) ≡ true
      → length (get_or sets i []) ≤ length (get_or sets j [])
  pub first : (i : ℕ) → i < m → is_filled sets caps I i ≡ true → is_member x (get_or sets i []) ≡ true
      → length (get_or sets i []) ≡ length (get_or sets j []) → j ≤ i

module _ (sets : List (List ℕ)) (caps I : List ℕ) where
  -- what is named tells the largest of the first m sets that are filled and hold x, or that there is none
  abbrev pub Tells : ℕ → ℕ → Option ℕ → Type 0
  Tells m x None = (i : ℕ) → i < m → is_filled sets caps I i ≡ true → is_member x (get_or sets i []) ≡ true → ⊥
  Tells m x (Some j) = IsLargest sets caps I m x j

  -- the number of members of the set at a place
  abbrev size : ℕ → ℕ
  size i = length (get_or sets i [])

  at_last : (m i : ℕ) → i < suc m → m ≤ i → i ≡ m
  at_last m i l last = omega arith

  -- the next set is not filled, or does not hold x
  passed : (m x : ℕ) (entry : Option ℕ) → (is_filled sets caps I m && is_member x (get_or sets m [])) ≡ false → Tells m x entry
      → Tells (suc m) x entry
  passed m x None fails tells = λ i l full here. elim (cases_lt i m) [
    | inl less ↦ tells i less full here
    | inr more ↦ never i (omega arith) full here
  ]
    where
      never : (i : ℕ) → i ≡ m → is_filled sets caps I i ≡ true → is_member x (get_or sets i []) ≡ true → ⊥
      never i same full here =
          let last = subst (λ k. (is_filled sets caps I k && is_member x (get_or sets k [])) ≡ true) same
          (and_from (is_filled sets caps I i) (is_member x (get_or sets i [])) full here) in
          both_ways _ fails last
  passed m x (Some j) fails tells = record {
    before = let l = tells.before in omega arith;
    filled = tells.filled;
    holds = tells.holds;
    largest = λ i l full here. tells.largest i (earlier i l full here) full here;
    first = λ i l full here same. tells.first i (earlier i l full here) full here same;
  }
    where
      earlier : (i : ℕ) → i < suc m → is_filled sets caps I i ≡ true → is_member x (get_or sets i []) ≡ true → i < m
      earlier i l full here = elim (cases_lt i m) [
        | inl less ↦ less
        | inr more ↦ absurd (
            let same : i ≡ m = omega arith in
            both_ways _ fails (subst (λ k. (is_filled sets caps I k && is_member x (get_or sets k [])) ≡ true) same
            (and_from (is_filled sets caps I i) (is_member x (get_or sets i [])) full here)))
      ]

  -- the next set is filled and holds x
  met : (m x : ℕ) (entry : Option ℕ) → is_filled sets caps I m ≡ true → is_member x (get_or sets m []) ≡ true → Tells m x entry
      → Tells (suc m) x (larger_named sets entry m)
  met m x None full here tells =
      rw (lt-ltb 0 (length (get_or sets m [])) (some_from_member x (get_or sets m []) here)) (record {
        before = omega arith;
        filled = full;
        holds = here;
        largest = λ i l f h. elim (cases_lt i m) [
          | inl before ↦ absurd (tells i before f h)
          | inr last ↦ (let same = ap size (at_last m i l last) in omega arith)
        ];
        first = λ i l f h same. elim (cases_lt i m) [
          | inl before ↦ absurd (tells i before f h)
          | inr last ↦ last
        ];
      })
  met m x (Some j) full here tells = elim (cases_lt (length (get_or sets j [])) (length (get_or sets m []))) [
    | inl less ↦ rw (lt-ltb (length (get_or sets j [])) (length (get_or sets m [])) less) (record {
      before = omega arith;
      filled = full;
      holds = here;
      largest = λ i l f h. elim (cases_lt i m) [
        | inl before ↦ (let most = tells.largest i before f h in omega arith)
        | inr last ↦ (let same = ap size (at_last m i l last) in omega arith)
      ];
      first = λ i l f h same. elim (cases_lt i m) [
        | inl before ↦ absurd (let most = tells.largest i before f h in omega arith)
        | inr last ↦ last
      ];
    })
    | inr more ↦ rw (le-ltb (length (get_or sets j [])) (length (get_or sets m [])) more) (record {
      before = let l = tells.before in omega arith;
      filled = tells.filled;
      holds = tells.holds;
      largest = λ i l f h. elim (cases_lt i m) [
        | inl before ↦ tells.largest i before f h
        | inr last ↦ (let same = ap size (at_last m i l last) in omega arith)
      ];
      first = λ i l f h same. elim (cases_lt i m) [
        | inl before ↦ tells.first i before f h same
        | inr last ↦ (let earlier = tells.before in omega arith)
      ];
    })
  ]

  pub tells_largest : (m x : ℕ) → Tells m x (largest_filled sets caps I m x)
  unfolding largest_filled
  tells_largest zero x = λ i l f h. absurd (omega arith)
  tells_largest (suc m) x = elim (cases_Bool (is_filled sets caps I m && is_member x (get_or sets m []))) [
    | inl both ↦ (
        let parts = and_parts (is_filled sets caps I m) (is_member x (get_or sets m [])) both in
        rw both (met m x (largest_filled sets caps I m x) parts.0 parts.1 (tells_largest m x)))
    | inr fails ↦ rw fails (passed m x (largest_filled sets caps I m x) fails (tells_largest m x))
  ]

-- ---- the largest for one element is the largest for each of its members

swapped : (A B : List ℕ) → Crosses A B → Crosses B A
swapped A B c = record {
  shared = c.shared;
  first = c.second;
  second = c.first;
  shared_in_first = c.shared_in_second;
  shared_in_second = c.shared_in_first;
  first_inside = c.second_inside;
  first_outside = c.second_outside;
  second_inside = c.first_inside;
  second_outside = c.first_outside;
}

-- no two different listed sets cross, in either order
never_cross : (sets : List (List ℕ)) → IsLaminarFamily sets → (i j : ℕ) → i ≢ j → i < length sets → j < length sets
    → Crosses (get_or sets i []) (get_or sets j []) → ⊥
never_cross sets family i j other l m c = elim (cases_order i j) [
  | inl same ↦ other same
  | inr (inl below) ↦ both_ways _ (family.nested i j below m) (test_from-Crosses (get_or sets i []) (get_or sets j []) c)
  | inr (inr above) ↦ both_ways _ (family.nested j i above l)
      (test_from-Crosses (get_or sets j []) (get_or sets i []) (swapped (get_or sets i []) (get_or sets j []) c))
]

-- of two sets that share x and do not cross, the one with no more members lies in the other
inside_larger : (A B : List ℕ) (x : ℕ) → IsRising A → IsRising B → (Crosses A B → ⊥) → is_member x A ≡ true → is_member x B ≡ true
    → length A ≤ length B → IsSubset A B
inside_larger A B x r s never in_A in_B fewer = elim (subset_or A B) [
  | inl inside ↦ inside
  | inr first ↦ elim (subset_or B A) [
    | inl inside ↦ (
        let same = same_size_subset B A s r inside fewer in
        record { inside = λ k h. subst (λ S. is_member k S ≡ true) (sym same) h })
    | inr second ↦ absurd (never (record {
      shared = x;
      first = first.0;
      second = second.0;
      shared_in_first = in_A;
      shared_in_second = in_B;
      first_inside = first.1;
      first_outside = first.2;
      second_inside = second.1;
      second_outside = second.2;
    }))
  ]
]

module _ (sets : List (List ℕ)) (caps I : List ℕ) (family : IsLaminarFamily sets)
    (rises : (i : ℕ) → i < length sets → IsRising (get_or sets i [])) where
  -- the largest for e is the only one that can be the largest for a member x of it
  same_largest : (e x j k : ℕ) → IsLargest sets caps I (length sets) e j → is_member x (get_or sets j []) ≡ true
      → IsLargest sets caps I (length sets) x k → j ≡ k
  same_largest e x j k one here other = elim (cases_eq j k) [
    | inl same ↦ same
    | inr apart ↦ (
        let low = other.largest j one.before one.filled here in
        let inside = inside_larger (get_or sets j []) (get_or sets k []) x (rises j one.before) (rises k other.before)
        (never_cross sets family j k apart one.before other.before) here other.holds low in
        let there = inside.inside e one.holds in
        let high = one.largest k other.before other.filled there in
        let first = one.first k other.before other.filled there (omega arith) in
        let second = other.first j one.before one.filled here (omega arith) in
        omega arith)
  ]

  -- and it is named for x
  pub named_for_member : (e x j : ℕ) → IsLargest sets caps I (length sets) e j → is_member x (get_or sets j []) ≡ true
      → largest_filled sets caps I (length sets) x ≡ Some j
  named_for_member e x j one here = by_entry (largest_filled sets caps I (length sets) x) (tells_largest sets caps I (length sets) x)
    where
      by_entry : (entry : Option ℕ) → Tells sets caps I (length sets) x entry → entry ≡ Some j
      by_entry None tells = absurd (tells j one.before one.filled here)
      by_entry (Some k) tells = ap Some (sym (same_largest e x j k one here tells))
