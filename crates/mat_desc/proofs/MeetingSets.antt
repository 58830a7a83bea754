-- The search for an earlier set that crosses the next one, among those that share a member with it: no other crosses it.
use Rattle.mat_desc.proofs.Common.{◌≡◌, ℕ, ◌+◌, ◌-◌, ◌<◌, ◌≤◌, true, false, ◌&&◌, ◌||◌, eqb, List, [], length, get_or, length-drop, length-take, take, drop, Option, Some, None, inl, inr, refl, sym, ap, ◌∙◌, arith, MatchOption, is_some, and_parts, both_ways, cases_eq, cases_lt, eq-eqb}
use Rattle.mat_desc.proofs.Common.{false_from_ne_true, or_cases, or_left, or_right, eqb-true, get_or_past, get_or-drop, get_or-take, row_at, is_member, IsPlaceTable, is_crossed-search, AreMeeting}
use Rattle.mat_sets.specs.Search.{IsFirstFrom}
use Rattle.mat_sets.proofs.Steps.{is_member-take_more}
use Rattle.mat_count.specs.Laminar.{crosses, is_crossed}
use Rattle.mat_count.specs.LaminarFaults.{IsFirstCrossing, NoneCrosses}
use Rattle.mat_count.proofs.SharedMembers.{crosses-apart}

-- ---- the places of the sets that share a member with the next

-- the sets that hold the next member are put in
pub AreMeeting-more : (sets table : List (List ℕ)) (next : List ℕ) (i : ℕ) (old new : List ℕ) → IsPlaceTable (length table) sets table
    → i < length next → get_or next i 0 < length table
    → ((a : ℕ) → is_member a new ≡ (is_member a old || is_member a (row_at table (get_or next i 0))))
    → AreMeeting sets (take i next) old → AreMeeting sets (take (i + 1) next) new
AreMeeting-more sets table next i old new placed l below united meeting = record { shared = shared; meets = meets }
  where
    y : ℕ
    y = get_or next i 0

    holds : (a : ℕ) → is_member a (row_at table y) ≡ is_member y (get_or sets a [])
    holds a = placed.right y a below

    shared : (a x : ℕ) → is_member x (take (i + 1) next) ≡ true → is_member x (get_or sets a []) ≡ true → is_member a new ≡ true
    shared a x h k = elim (or_cases (is_member x (take i next)) (eqb x y) (sym (is_member-take_more next i x l) ∙ h)) [
      | inl before ↦ united a ∙ or_left (is_member a old) (is_member a (row_at table y)) (meeting.shared a x before k)
      | inr here ↦ united a ∙ or_right (is_member a old) (is_member a (row_at table y))
          (holds a ∙ ap (λ z. is_member z (get_or sets a [])) (sym (eqb-true x y here)) ∙ k)
    ]

    meets : (a : ℕ) → is_member a new ≡ true → (x : ℕ) × (is_member x (take (i + 1) next) ≡ true) × (is_member x (get_or sets a []) ≡ true)
    meets a h = elim (or_cases (is_member a old) (is_member a (row_at table y)) (sym (united a) ∙ h)) [
      | inl before ↦
          let m = meeting.meets a before in
          (m.0, is_member-take_more next i m.0 l ∙ or_left (is_member m.0 (take i next)) (eqb m.0 y) m.1, m.2)
      | inr here ↦ (y, is_member-take_more next i y l ∙ or_right (is_member y (take i next)) (eqb y y) (eq-eqb y y refl), sym (holds a) ∙ here)
    ]

-- ---- the search

-- none of the sets before a place crosses the next
abbrev pub NoneBefore : List (List ℕ) → List ℕ → ℕ → Type 0
NoneBefore sets next from = (k : ℕ) → k < from → crosses (get_or sets k []) next ≡ false

-- a set that shares no member with the next does not cross it
uncrossed : (sets : List (List ℕ)) (next places : List ℕ) (k : ℕ) → AreMeeting sets next places → is_member k places ≡ false
    → crosses (get_or sets k []) next ≡ false
uncrossed sets next places k meeting h = crosses-apart (get_or sets k []) next (λ x l.
    false_from_ne_true (is_member x (get_or sets k []) && is_member x next) (λ both.
    let parts = and_parts (is_member x (get_or sets k [])) (is_member x next) both in
    both_ways (is_member k places) h (meeting.shared k x parts.1 parts.0)))

-- there is a set at a place that is found
pub found_listed : (sets : List (List ℕ)) (next places : List ℕ) (from place : ℕ) → AreMeeting sets next places
    → IsFirstFrom (λ k. is_member k places) from place → place < length sets
found_listed sets next places from place meeting first = elim (cases_lt place (length sets)) [
  | inl less ↦ less
  | inr past ↦
      let m = meeting.meets place first.passes in
      absurd (both_ways (is_member m.0 (get_or sets place [])) (ap (is_member m.0) (get_or_past sets place [] past)) m.2)
]

-- none of the sets before the place that is found crosses the next
before_found : (sets : List (List ℕ)) (next places : List ℕ) (from place : ℕ) → AreMeeting sets next places
    → IsFirstFrom (λ k. is_member k places) from place → NoneBefore sets next from → NoneBefore sets next place
before_found sets next places from place meeting first none = λ k l. elim (cases_lt k from) [
  | inl before ↦ none k before
  | inr later ↦ uncrossed sets next places k meeting (first.none_before k later l)
]

-- nor does the set at this place
pub NoneBefore-more : (sets : List (List ℕ)) (next places : List ℕ) (from place : ℕ) → AreMeeting sets next places
    → IsFirstFrom (λ k. is_member k places) from place → crosses (get_or sets place []) next ≡ false → NoneBefore sets next from
    → NoneBefore sets next (place + 1)
NoneBefore-more sets next places from place meeting first free none = λ k l. elim (cases_eq k place) [
  | inl same ↦ ap (λ z. crosses (get_or sets z []) next) same ∙ free
  | inr other ↦ before_found sets next places from place meeting first none k (omega arith)
]

-- the set at this place crosses the next
pub is_crossed-found : (sets : List (List ℕ)) (next places : List ℕ) (from place : ℕ) → AreMeeting sets next places
    → IsFirstFrom (λ k. is_member k places) from place → crosses (get_or sets place []) next ≡ true → NoneBefore sets next from
    → is_crossed sets next ≡ true
is_crossed-found sets next places from place meeting first crossed none = is_crossed-search (Some place) sets next (record {
  listed = found_listed sets next places from place meeting first;
  crossed = crossed;
  least = before_found sets next places from place meeting first none;
})

-- no place is left
pub is_crossed-none : (sets : List (List ℕ)) (next places : List ℕ) (from : ℕ) → AreMeeting sets next places
    → ((x : ℕ) → from ≤ x → is_member x places ≡ false) → NoneBefore sets next from → is_crossed sets next ≡ false
is_crossed-none sets next places from meeting left none = is_crossed-search None sets next (record {
  none = λ k l. elim (cases_lt k from) [
    | inl before ↦ none k before
    | inr later ↦ uncrossed sets next places k meeting (left k later)
  ];
})

-- ---- one set by itself

one_set : (sets slice : List (List ℕ)) (at : ℕ) → slice ≡ take (at + 1 - at) (drop at sets) → get_or slice 0 [] ≡ get_or sets at []
one_set sets slice at same = ap (λ s. get_or s 0 []) same ∙ get_or-take (at + 1 - at) (drop at sets) 0 [] (omega arith)
    ∙ get_or-drop at sets 0 [] ∙ ap (λ k. get_or sets k []) (omega arith)

-- what a search in a list of one set tells
pub crosses-one : (found : Option ℕ) (sets slice : List (List ℕ)) (next : List ℕ) (at : ℕ) → at < length sets
    → slice ≡ take (at + 1 - at) (drop at sets) → MatchOption found (NoneCrosses slice next) (λ a. IsFirstCrossing slice next a)
    → crosses (get_or sets at []) next ≡ is_some found
crosses-one found sets slice next at listed same told = by_found found told
  where
    long : length slice ≡ 1
    long = ap length same ∙ omega (arith, length-take (at + 1 - at) (drop at sets), length-drop at sets)

    by_found : (found : Option ℕ) → MatchOption found (NoneCrosses slice next) (λ a. IsFirstCrossing slice next a)
        → crosses (get_or sets at []) next ≡ is_some found
    by_found None free = ap (λ s. crosses s next) (sym (one_set sets slice at same)) ∙ free.none 0 (omega (arith, long))
    by_found (Some a) first =
        let here : a ≡ 0 = omega (arith, first.listed, long) in
        ap (λ s. crosses s next) (sym (one_set sets slice at same)) ∙ ap (λ k. crosses (get_or slice k []) next) (sym here) ∙ first.crossed
