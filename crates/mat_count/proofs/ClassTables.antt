-- Tables of the classes of elements, and the numbers that are read off them: each loop begins well, and goes on well.
use Rattle.mat_count.proofs.Common.{◌≡◌, ℕ, ◌+◌, ◌<◌, ◌≤◌, ◌≢◌, ◌↔◌, Bool, true, false, cond, ◌||◌, not, eqb, List, [], length, get_or, set, take, length-take, replicate, Option, Some, None, refl, sym, ap, ◌∙◌, inl, inr, arith, cases_Bool, cases_eq, cases_lt, cases_order, both_ways, eq-eqb, ne_eqb}
use Rattle.mat_count.proofs.Common.{and_parts, false_from_ne_true, get_or-take, get_or_past, get_or-set_same, get_or-set_other, get_or-replicate, get_or_default, length-set, length-replicate, get_or-set_at, is_member, IsRising, AllBelow, intersection, is_set, is_set-true, intersection-more}
use Rattle.mat_count.proofs.Common.{is_member-take_more, AllBelow-at, intersection-none, AreDisjoint, indicator, names, IsClassTable, IsClassEntered, CountsMembers, is_within_caps, is_counted, IsWithinCaps-from_test, test_from-IsWithinCaps}
use Rattle.std.proofs.lemmas.List.Filters.{length-filter_both}
use Rattle.mat_sets.proofs.Families.{disjoint-apart}

-- ---- entering one class

pub IsClassEntered-none : (table : List (Option ℕ)) (class : List ℕ) (place : ℕ) → IsClassEntered table (take 0 class) place table
IsClassEntered-none table class place = record { at = λ e l. refl }

pub IsClassEntered-more : (before table : List (Option ℕ)) (class : List ℕ) (place i : ℕ) → i < length class → length table ≡ length before
    → get_or class i 0 < length before → IsClassEntered before (take i class) place table
    → IsClassEntered before (take (i + 1) class) place (set table (get_or class i 0) (Some place))
IsClassEntered-more before table class place i inside long small entered = record {
  at = λ e l. elim (cases_eq e (get_or class i 0)) [
    | inl same ↦ here e same (is_member e (take i class)) (is_member-take_more class i e inside)
    | inr other ↦ there e other l (is_member e (take i class)) (is_member-take_more class i e inside) (entered.at e l)
  ];
}
  where
    here : (e : ℕ) → e ≡ get_or class i 0 → (b : Bool) → is_member e (take (i + 1) class) ≡ (b || eqb e (get_or class i 0))
        → get_or (set table (get_or class i 0) (Some place)) e None ≡ cond (is_member e (take (i + 1) class)) (Some place) (get_or before e None)
    here e same true is = rw (is, same) (get_or-set_same table (get_or class i 0) (Some place) None (omega arith))
    here e same false is = rw (is, eq-eqb e (get_or class i 0) same, same) (get_or-set_same table (get_or class i 0) (Some place) None (omega arith))

    there : (e : ℕ) → e ≢ get_or class i 0 → e < length before → (b : Bool)
        → is_member e (take (i + 1) class) ≡ (b || eqb e (get_or class i 0))
        → get_or table e None ≡ cond b (Some place) (get_or before e None)
        → get_or (set table (get_or class i 0) (Some place)) e None ≡ cond (is_member e (take (i + 1) class)) (Some place) (get_or before e None)
    there e other l true is was = rw is (get_or-set_other table (get_or class i 0) e (Some place) None other ∙ was)
    there e other l false is was =
        rw (is, ne_eqb e (get_or class i 0) other) (get_or-set_other table (get_or class i 0) e (Some place) None other ∙ was)

pub ruleset entering = (IsClassEntered-none, IsClassEntered-more, AllBelow-at)

-- ---- entering each class in turn

pub IsClassTable-none : (count : ℕ) (classes : List (List ℕ)) → IsClassTable count (take 0 classes) (replicate count None)
IsClassTable-none count classes = record {
  entries = length-replicate count None;
  right = λ e i l. ap (λ entry. names entry i) (get_or-replicate {A = Option ℕ} count e None None l);
}

-- the sets before a place, read at another
pub before_place : (sets : List (List ℕ)) (n i : ℕ) → i < n → get_or (take n sets) i [] ≡ get_or sets i []
before_place sets n i l = get_or-take n sets i [] l

pub past_place : (sets : List (List ℕ)) (n i : ℕ) → n ≤ i → get_or (take n sets) i [] ≡ []
past_place sets n i l = get_or_past (take n sets) i [] (omega (arith, length-take n sets))

pub IsClassTable-more : (count : ℕ) (classes : List (List ℕ)) (before table : List (Option ℕ)) (k : ℕ) → k < length classes
    → AreDisjoint classes → IsClassTable count (take k classes) before → length table ≡ length before
    → IsClassEntered before (get_or classes k []) k table → IsClassTable count (take (k + 1) classes) table
IsClassTable-more count classes before table k inside apart was long entered = record {
  entries = long ∙ was.entries;
  right = λ e i l. let here : e < length before = (let entries = was.entries in omega arith) in
      ap (λ entry. names entry i) (entered.at e here) ∙ elim (cases_Bool (is_member e (get_or classes k []))) [
        | inl member ↦ rw member (elim (cases_order k i) [
          | inl same ↦
              rw (eq-eqb k i same, before_place classes (k + 1) i (omega arith))
              (sym (ap (λ j. is_member e (get_or classes j [])) (sym same) ∙ member))
          | inr (inl above) ↦ rw (ne_eqb k i (omega arith), past_place classes (k + 1) i (omega arith))
          | inr (inr below) ↦
              (let other : k ≢ i = omega arith in
              rw (ne_eqb k i other, before_place classes (k + 1) i (omega arith)) (sym (disjoint-apart classes k i e apart other member)))
        ])
        | inr absent ↦ rw absent (was.right e i l ∙ elim (cases_order k i) [
          | inl same ↦
              rw (past_place classes k i (omega arith), before_place classes (k + 1) i (omega arith))
              (sym (ap (λ j. is_member e (get_or classes j [])) (sym same) ∙ absent))
          | inr (inl above) ↦ rw (past_place classes k i (omega arith), past_place classes (k + 1) i (omega arith))
          | inr (inr below) ↦ rw (before_place classes k i below, before_place classes (k + 1) i (omega arith))
        ])
      ];
}

pub ruleset tables = (IsClassTable-none, IsClassTable-more)

-- ---- counting by the table

pub CountsMembers-none : (classes : List (List ℕ)) (numbers : List ℕ) (n : ℕ) → numbers ≡ replicate n 0 → n ≡ length classes
    → CountsMembers classes [] numbers
CountsMembers-none classes numbers n made same = record {
  long = ap length made ∙ length-replicate n 0 ∙ same;
  at = λ i l. ap (λ v. get_or v i 0) made ∙ get_or-replicate n i 0 0 (omega arith) ∙ sym (ap length (intersection-none (get_or classes i [])));
}

-- what the table names is a class
pub named-inside : (count : ℕ) (classes : List (List ℕ)) (table : List (Option ℕ)) (x place : ℕ) → x < count
    → IsClassTable count classes table → get_or table x None ≡ Some place → place < length classes
named-inside count classes table x place small right is = elim (cases_lt place (length classes)) [
  | inl inside ↦ inside
  | inr past ↦ absurd (
      let named : eqb place place ≡ is_member x (get_or classes place []) = sym (ap (λ entry. names entry place) is)
      ∙ right.right x place small in
      let none : is_member x (get_or classes place []) ≡ false = ap (is_member x) (get_or_past classes place [] past) in
      both_ways (eqb place place) (named ∙ none) (eq-eqb place place refl))
]

-- the next member stands in the class that the table names
pub CountsMembers-named : (count : ℕ) (classes : List (List ℕ)) (table : List (Option ℕ)) (X numbers after : List ℕ) (i x place number : ℕ)
    → i < length X → AllBelow count X → x ≡ get_or X i 0 → IsClassTable count classes table → get_or table x None ≡ Some place
    → number ≡ get_or numbers place number → after ≡ set numbers place (number + 1) → CountsMembers classes (take i X) numbers
    → CountsMembers classes (take (i + 1) X) after
CountsMembers-named count classes table X numbers after i x place number inside below item right is read written counts = record {
  long = ap length written ∙ length-set numbers place (number + 1) ∙ counts.long;
  at = λ k l.
      let small : x < count = omega (arith, AllBelow-at count X i below inside) in
      let named : eqb place k ≡ is_member x (get_or classes k []) = sym (ap (λ entry. names entry k) is) ∙ right.right x k small in
      let more = intersection-more X (get_or classes k []) i inside
      ∙ ap (λ z. length (intersection (take i X) (get_or classes k [])) + indicator (is_member z (get_or classes k []))) (sym item) in
      let long = counts.long in
      ap (λ v. get_or v k 0) written ∙ elim (cases_eq place k) [
        | inl same ↦ here k (omega arith) same (is_member x (get_or classes k [])) (sym named ∙ eq-eqb place k same) more (counts.at k l)
        | inr other ↦ there k other (is_member x (get_or classes k [])) (sym named ∙ ne_eqb place k other) more (counts.at k l)
      ];
}
  where
    here : (k : ℕ) → k < length numbers → place ≡ k → (b : Bool) → b ≡ true → {after now : ℕ} → after ≡ now + indicator b
        → get_or numbers k 0 ≡ now → get_or (set numbers place (number + 1)) k 0 ≡ after
    here k l same true is more was =
        let now = get_or-set_at numbers place k (number + 1) 0 (sym same) (omega arith) in
        let old : number ≡ get_or numbers k 0 = read ∙ ap (λ j. get_or numbers j number) same ∙ get_or_default numbers k number 0 l in
        omega arith
    here k l same false is more was = absurd (both_ways false refl is)

    there : (k : ℕ) → place ≢ k → (b : Bool) → b ≡ false → {after now : ℕ} → after ≡ now + indicator b
        → get_or numbers k 0 ≡ now → get_or (set numbers place (number + 1)) k 0 ≡ after
    there k other true is more was = absurd (both_ways true is refl)
    there k other false is more was = let now = get_or-set_other numbers place k (number + 1) 0 (λ e. other (sym e)) in omega arith

-- the next member stands in no class
pub CountsMembers-free : (count : ℕ) (classes : List (List ℕ)) (table : List (Option ℕ)) (X numbers : List ℕ) (i x : ℕ) → i < length X
    → AllBelow count X → x ≡ get_or X i 0 → IsClassTable count classes table
    → ((place : ℕ) → get_or table x None ≡ Some place → ⊥)
    → CountsMembers classes (take i X) numbers → CountsMembers classes (take (i + 1) X) numbers
CountsMembers-free count classes table X numbers i x inside below item right unnamed counts = record {
  long = counts.long;
  at = λ k l.
      let small : get_or X i 0 < count = AllBelow-at count X i below inside in
      let free : is_member (get_or X i 0) (get_or classes k []) ≡ false = sym (right.right (get_or X i 0) k small)
      ∙ ap (λ z. names (get_or table z None) k) (sym item) ∙ none (get_or table x None) k unnamed in
      let more = intersection-more X (get_or classes k []) i inside in
      let was = counts.at k l in
      same (is_member (get_or X i 0) (get_or classes k [])) free more was;
}
  where
    none : (entry : Option ℕ) (k : ℕ) → ((place : ℕ) → entry ≡ Some place → ⊥) → names entry k ≡ false
    none None k unnamed = refl
    none (Some place) k unnamed = absurd (unnamed place refl)

    same : (b : Bool) → b ≡ false → {number after now : ℕ} → after ≡ now + indicator b → number ≡ now → number ≡ after
    same true is more was = absurd (both_ways true is refl)
    same false is more was = omega arith

-- no number is above how many members were counted
pub length-intersection : (X S : List ℕ) → length (intersection X S) ≤ length X
unfolding intersection
length-intersection X S = omega (arith, length-filter_both (λ x. is_member x S) (λ x. not (is_member x S)) (λ x. refl) X)

pub number-small : (classes : List (List ℕ)) (X numbers : List ℕ) (i place number : ℕ) → place < length classes
    → number ≡ get_or numbers place number → CountsMembers classes (take i X) numbers → number ≤ i
number-small classes X numbers i place number inside read counts =
    let long = counts.long in
    let same = get_or_default numbers place number 0 (omega arith) in
    omega (arith, counts.at place inside, length-intersection (take i X) (get_or classes place []), length-take i X)

pub ruleset counting = (CountsMembers-none, named-inside, AllBelow-at)

-- ---- the answer

-- the numbers are at most the caps exactly where X is independent
pub is_counted-from_numbers : (n : ℕ) (classes : List (List ℕ)) (caps X numbers : List ℕ) (within : Bool) → length caps ≡ length classes
    → IsRising X → AllBelow n X → CountsMembers classes X numbers
    → ((within ≡ true) ↔ ((i : ℕ) → i < length caps → get_or numbers i 0 ≤ get_or caps i 0)) → within ≡ is_counted n classes caps X
is_counted-from_numbers n classes caps X numbers true capped rising below counts means =
    rw (is_set-true n X rising below)
    (sym (test_from-IsWithinCaps classes caps X
    (record { at = λ i l. let number = counts.at i l in let most = means.0 refl i (omega arith) in omega arith })))
is_counted-from_numbers n classes caps X numbers false capped rising below counts means =
    sym (false_from_ne_true (is_counted n classes caps X) (λ passes.
    let fits = IsWithinCaps-from_test classes caps X capped (and_parts (is_set n X) (is_within_caps classes caps X) passes).1 in
    both_ways false refl (means.1
    (λ i l. let inside : i < length classes = omega arith in let number = counts.at i inside in let most = fits.at i inside in omega arith))))
