-- Tables that list for each element the places of the sets that hold it, and the numbers that are read off them: each
-- loop begins well, and goes on well.
use Rattle.mat_count.proofs.Common.{◌≡◌, ℕ, ◌+◌, ◌-◌, ◌<◌, ◌≤◌, Bool, true, false, ◌&&◌, ◌||◌, eqb, List, [], ◌∷◌, length, get_or, set, take, length-take, replicate, inl, inr, refl, sym, ap, ◌∙◌, subst, arith, cases_eq, cases_lt, cases_order, both_ways, eq-eqb, ne_eqb, or_right, get_or_past}
use Rattle.mat_count.proofs.Common.{get_or-set_same, get_or-set_other, get_or-replicate, get_or_default, length-replicate, All-get_or, All-from_get_or, is_member, IsRising, AllBelow, with_one, intersection, indicator, AllBelow-from_members, RisesFrom-index, is_member-head, is_member-with_one}
use Rattle.mat_count.proofs.Common.{place_of_member, intersection-more, is_member-take_more, is_member-take_next, AllBelow-at, or_none, SomeOutside, IsPlaced, IsPlaceTable, CountsMembers}
use Rattle.std.specs.List.{All}
use Rattle.mat_count.proofs.ClassTables.{before_place, CountsMembers-none, length-intersection, past_place}

-- ---- ranges

-- the last member is the largest
pub AllBelow-from_last : (n : ℕ) (a : List ℕ) → IsRising a → get_or a (length a - 1) 0 < n → AllBelow n a
AllBelow-from_last n a r below = AllBelow-from_members n a (λ k h.
    let found = place_of_member k a h in
    let inside = found.1 in
    let item = found.2 in
    elim (cases_eq found.0 (length a - 1)) [
      | inl same ↦ (let last : k ≡ get_or a (length a - 1) 0 = sym item ∙ ap (λ i. get_or a i 0) same in omega arith)
      | inr other ↦ (let less = RisesFrom-index 0 a found.0 (length a - 1) r.rises (omega arith) (omega arith) in omega arith)
    ])

pub AllBelow-empty : (n : ℕ) (a : List ℕ) → length a ≡ 0 → AllBelow n a
AllBelow-empty n [] none = tt
AllBelow-empty n (x ∷ a) none = absurd (omega arith)

pub ruleset bounds = (AllBelow-from_last, AllBelow-empty, AllBelow-at)

-- a list whose items are not all below n has one that is not
some_outside : (n : ℕ) (a : List ℕ) → (AllBelow n a → ⊥) → (x : ℕ) × (is_member x a ≡ true) × (n ≤ x)
some_outside n [] never = absurd (never tt)
some_outside n (x ∷ a) never = elim (cases_lt x n) [
  | inl less ↦ (let rest = some_outside n a (λ all. never (less, all)) in (rest.0, or_right (eqb rest.0 x) (is_member rest.0 a) rest.1, rest.2))
  | inr more ↦ (x, is_member-head x a, more)
]

pub SomeOutside-here : (n : ℕ) (sets : List (List ℕ)) (i : ℕ) → i < length sets → (AllBelow n (get_or sets i []) → ⊥)
    → SomeOutside n sets
SomeOutside-here n sets i inside never =
    let found = some_outside n (get_or sets i []) never in
    record { place = i; member = found.0; listed = inside; inside = found.1; outside = found.2 }

pub All-from_places : (n : ℕ) (sets : List (List ℕ)) (i : ℕ) → length sets ≤ i → ((k : ℕ) → k < i → AllBelow n (get_or sets k []))
    → All (AllBelow n) sets
All-from_places n sets i all below = All-from_get_or (AllBelow n) sets [] (λ k l. below k (omega arith))

pub All-at : (n : ℕ) (sets : List (List ℕ)) (i : ℕ) → i < length sets → All (AllBelow n) sets → AllBelow n (get_or sets i [])
All-at n sets i inside all = All-get_or (AllBelow n) sets i [] inside all

pub ruleset ranges = (SomeOutside-here, All-from_places)

-- ---- entering one set

pub IsPlaced-none : (table : List (List ℕ)) (S : List ℕ) (place : ℕ) → IsPlaced table (take 0 S) place table
IsPlaced-none table S place = record { at = λ e i l. refl }

-- the place is put in at the next member
pub IsPlaced-more : (before table : List (List ℕ)) (S : List ℕ) (place k : ℕ) → k < length S → length table ≡ length before
    → get_or S k 0 < length before
    → IsPlaced before (take k S) place table
    → IsPlaced before (take (k + 1) S) place (set table (get_or S k 0) (with_one (get_or table (get_or S k 0) []) place))
IsPlaced-more before table S place k inside long small placed = record {
  at = λ e i l. elim (cases_eq e x) [
    | inl same ↦ (
        let now : is_member i (get_or (set table x (with_one (get_or table x []) place)) e []) ≡ is_member i (with_one (get_or table x []) place) =
        ap (λ z. is_member i (get_or (set table x (with_one (get_or table x []) place)) z [])) same
        ∙ ap (is_member i) (get_or-set_same table x (with_one (get_or table x []) place) [] (omega arith)) in
        let was = placed.at e i l in
        let old : is_member i (get_or table x []) ≡ is_member i (get_or table e []) = ap (λ z. is_member i (get_or table z [])) (sym same) in
        now ∙ is_member-with_one i place (get_or table x []) ∙ ap (λ b. eqb i place || b) (old ∙ was)
        ∙ here (is_member e (take k S)) (eqb i place) (is_member i (get_or before e []))
        ∙ ap (λ b. (b && eqb i place) || is_member i (get_or before e [])) (sym (is_member-take_more S k e inside
        ∙ or_right (is_member e (take k S)) (eqb e x) (eq-eqb e x same))))
    | inr other ↦ ap (is_member i) (get_or-set_other table x e (with_one (get_or table x []) place) [] other) ∙ placed.at e i l
        ∙ ap (λ b. (b && eqb i place) || is_member i (get_or before e [])) (sym (is_member-take_more S k e inside
        ∙ ap (λ b. is_member e (take k S) || b) (ne_eqb e x other) ∙ or_none (is_member e (take k S))))
  ];
}
  where
    x : ℕ
    x = get_or S k 0

    here : (a b c : Bool) → (b || ((a && b) || c)) ≡ ((true && b) || c)
    here true true c = refl
    here true false c = refl
    here false true c = refl
    here false false c = refl

-- the same, as the loop reads and writes the table
pub IsPlaced-next : (before table : List (List ℕ)) (S : List ℕ) (place k x : ℕ) (old after : List ℕ) → k < length S → x ≡ get_or S k 0
    → length table ≡ length before → AllBelow (length before) S
    → old ≡ get_or table x old → after ≡ with_one old place → IsPlaced before (take k S) place table
    → IsPlaced before (take (k + 1) S) place (set table x after)
IsPlaced-next before table S place k x old after inside item long below read written placed =
    let small = AllBelow-at (length before) S k below inside in
    let was : old ≡ get_or table (get_or S k 0) [] = read ∙ get_or_default table x old [] (omega arith) ∙ ap (λ z. get_or table z []) item in
    subst (λ z. IsPlaced before (take (k + 1) S) place (set table z after)) (sym item)
    (subst (λ T. IsPlaced before (take (k + 1) S) place (set table (get_or S k 0) T)) (sym (written ∙ ap (λ T. with_one T place) was))
    (IsPlaced-more before table S place k inside long small placed))

pub ruleset entering = (IsPlaced-none, IsPlaced-next, AllBelow-at)

-- ---- entering each set in turn

pub IsPlaceTable-none : (count : ℕ) (sets : List (List ℕ)) → IsPlaceTable count (take 0 sets) (replicate count [])
IsPlaceTable-none count sets = record {
  entries = length-replicate count [];
  right = λ e i l. ap (is_member i) (get_or-replicate {A = List ℕ} count e [] [] l);
}

pub IsPlaceTable-more : (count : ℕ) (sets before table : List (List ℕ)) (k : ℕ) → k < length sets → IsPlaceTable count (take k sets) before
    → length table ≡ length before → IsPlaced before (get_or sets k []) k table → IsPlaceTable count (take (k + 1) sets) table
IsPlaceTable-more count sets before table k inside was long placed = record {
  entries = long ∙ was.entries;
  right = λ e i l.
      let entries = was.entries in
      let now = placed.at e i (omega arith) in
      let old = was.right e i l in
      now ∙ ap (λ b. (is_member e (get_or sets k []) && eqb i k) || b) old ∙ elim (cases_order i k) [
        | inl same ↦ rw (eq-eqb i k same, past_place sets k i (omega arith), before_place sets (k + 1) i (omega arith))
            (here (is_member e (get_or sets k [])) ∙ ap (λ j. is_member e (get_or sets j [])) (sym same))
        | inr (inl below) ↦ rw (ne_eqb i k (omega arith), before_place sets k i below, before_place sets (k + 1) i (omega arith))
            (there (is_member e (get_or sets k [])) (is_member e (get_or sets i [])))
        | inr (inr above) ↦ rw (ne_eqb i k (omega arith), past_place sets k i (omega arith), past_place sets (k + 1) i (omega arith))
            (there (is_member e (get_or sets k [])) false)
      ];
}
  where
    here : (a : Bool) → ((a && true) || false) ≡ a
    here true = refl
    here false = refl

    there : (a b : Bool) → ((a && false) || b) ≡ b
    there true b = refl
    there false b = refl

pub ruleset tables = (IsPlaceTable-none, IsPlaceTable-more, All-at)

-- ---- one more at each place

pub record AreCounted (before places numbers : List ℕ) : Type 0 where
  pub at : (i : ℕ) → i < length before → get_or numbers i 0 ≡ get_or before i 0 + indicator (is_member i places)

pub AreCounted-none : (numbers places : List ℕ) → AreCounted numbers (take 0 places) numbers
AreCounted-none numbers places = record { at = λ i l. omega arith }

-- the number at the next place was not counted up before
pub number-before : (before places numbers : List ℕ) (k x : ℕ) → IsRising places → k < length places → x ≡ get_or places k 0
    → AllBelow (length before) places
    → AreCounted before (take k places) numbers → get_or numbers x 0 ≡ get_or before x 0
number-before before places numbers k x rises inside item below counted =
    let small = AllBelow-at (length before) places k below inside in
    let at = counted.at x (omega arith) in
    let none = ap indicator (ap (λ z. is_member z (take k places)) item ∙ is_member-take_next places k rises inside) in
    omega arith

pub AreCounted-more : (before places numbers : List ℕ) (k x : ℕ) → IsRising places → k < length places → x ≡ get_or places k 0
    → AllBelow (length before) places → length numbers ≡ length before
    → AreCounted before (take k places) numbers → AreCounted before (take (k + 1) places) (set numbers x (get_or numbers x 0 + 1))
AreCounted-more before places numbers k x rises inside item below long counted = record {
  at = λ i l. elim (cases_eq i x) [
    | inl same ↦ (
        let now : get_or (set numbers x (get_or numbers x 0 + 1)) i 0 ≡ get_or numbers x 0 + 1 =
        ap (λ z. get_or (set numbers x (get_or numbers x 0 + 1)) z 0) same
        ∙ get_or-set_same numbers x (get_or numbers x 0 + 1) 0 (omega arith) in
        let was = number-before before places numbers k x rises inside item below counted ∙ ap (λ z. get_or before z 0) (sym same) in
        let one : indicator (is_member i (take (k + 1) places)) ≡ 1 = ap indicator (is_member-take_more places k i inside
        ∙ or_right (is_member i (take k places)) (eqb i (get_or places k 0)) (eq-eqb i (get_or places k 0) (same ∙ item))) in
        omega arith)
    | inr other ↦ get_or-set_other numbers x i (get_or numbers x 0 + 1) 0 other ∙ counted.at i l
        ∙ ap (λ b. get_or before i 0 + indicator b) (sym (is_member-take_more places k i inside
        ∙ ap (λ b. is_member i (take k places) || b) (ne_eqb i (get_or places k 0) (λ e. other (e ∙ sym item)))
        ∙ or_none (is_member i (take k places))))
  ];
}

pub ruleset counting = (AreCounted-none, AreCounted-more, CountsMembers-none, AllBelow-at)

-- ---- the numbers of members

-- the places of an element are those of sets
pub AllBelow-places : (count : ℕ) (sets table : List (List ℕ)) (e : ℕ) → e < count → IsPlaceTable count sets table
    → AllBelow (length sets) (get_or table e [])
AllBelow-places count sets table e small right = AllBelow-from_members (length sets) (get_or table e []) (λ i h. elim (cases_lt i (length sets)) [
  | inl inside ↦ inside
  | inr past ↦ absurd (both_ways false refl (ap (is_member e) (sym (get_or_past sets i [] past)) ∙ sym (right.right e i small) ∙ h))
])

-- so is the entry that is read, where as many are listed as there are sets
pub AllBelow-read : {count : ℕ} {sets table : List (List ℕ)} {e : ℕ} → IsPlaceTable count sets table → e < count → {A : Type 0} (listed : List A) {places : List ℕ}
    → length listed ≡ length sets → places ≡ get_or table e [] → AllBelow (length listed) places
AllBelow-read {count} {sets} {table} {e} right small listed long read = rw (long, read) (AllBelow-places count sets table e small right)

-- the next member is counted at each of its places
pub CountsMembers-more : (count : ℕ) (sets table : List (List ℕ)) (X before after : List ℕ) (i x : ℕ) → i < length X → x < count
    → x ≡ get_or X i 0 → IsPlaceTable count sets table → length after ≡ length before
    → ((k : ℕ) → k < length before → get_or after k 0 ≡ get_or before k 0 + indicator (is_member k (get_or table x [])))
    → CountsMembers sets (take i X) before → CountsMembers sets (take (i + 1) X) after
CountsMembers-more count sets table X before after i x inside small item right long counted counts = record {
  long = long ∙ counts.long;
  at = λ k l.
      let same = counts.long in
      let now = counted k (omega arith) in
      let was = counts.at k l in
      let one = ap indicator (right.right x k small) in
      let more = intersection-more X (get_or sets k []) i inside
      ∙ ap (λ z. length (intersection (take i X) (get_or sets k [])) + indicator (is_member z (get_or sets k []))) (sym item) in
      omega arith;
}

-- no number is above how many members were counted
pub numbers-small : (sets : List (List ℕ)) (X numbers : List ℕ) (i k : ℕ) → k < length numbers → CountsMembers sets (take i X) numbers
    → get_or numbers k 0 ≤ i
numbers-small sets X numbers i k inside counts =
    let long = counts.long in
    omega (arith, counts.at k (omega arith), length-intersection (take i X) (get_or sets k []), length-take i X)
