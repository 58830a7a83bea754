-- The tables of the sets that are named for each element: how each loop begins and goes on.
use Rattle.mat_witness.proofs.Common.{◌≡◌, ◌≢◌, ℕ, ◌+◌, ◌<◌, ◌≤◌, Bool, true, false, cond, not, ◌⊎◌, eqb, leb, ltb, Option, Some, None, List, [], length, get_or, set, take, replicate, inl, inr, refl, sym, ap, subst, ◌∙◌, arith, both_ways, cases_eq, eq-eqb, eqb-true, le-leb, lt-leb, ne_eqb, or_cases}
use Rattle.mat_witness.proofs.Common.{or_left, or_right, get_or-replicate, get_or-set_other, get_or-set_same, All-replicate, IfSome, same_Some, AllBelow, is_member, IsRising, IsSet, intersection, with_one, below_member, filter_same_at, is_member-with_one, IsRising-with_one, is_member-take_more}
use Rattle.mat_witness.proofs.Common.{is_member-take_next, AllBelow-at, or_none, AreLargerNamed, AreLargestNamed, AreListed, AreNamed, is_filled, is_unnamed, larger_named, largest_filled, size_named}
use Rattle.std.proofs.Math.Numerals.{add-one}
use Rattle.std.specs.List.{filter}
use Rattle.std.specs.Option.{is_some}
use Rattle.mat_sets.proofs.Equalities.{intersection-commute}

-- ---- the item at a place

-- the items of a list below n are below n, by another name of the list too
pub listed_below : {n i : ℕ} {xs items : List ℕ} → items ≡ xs → AllBelow n xs → i < length items → get_or items i 0 < n
listed_below {n} {i} {xs} {items} is below inside =
    subst (λ ys. get_or ys i 0 < n) (sym is) (AllBelow-at n xs i below (subst (λ ys. i < length ys) is inside))

-- ---- one set

-- at the next member the larger set is named
larger_next : (sets : List (List ℕ)) (place : ℕ) (S : List ℕ) (i : ℕ) (before table after : List (Option ℕ)) → IsRising S → i < length S
    → get_or after (get_or S i 0) None ≡ larger_named sets (get_or table (get_or S i 0) None) place
    → ((x : ℕ) → x ≢ get_or S i 0 → get_or after x None ≡ get_or table x None)
    → AreLargerNamed sets place (take i S) before table → AreLargerNamed sets place (take (i + 1) S) before after
larger_next sets place S i before table after rises inside here there named = record {
  at = λ x l. elim (cases_eq x y) [
    | inl same ↦ (
        let fresh : is_member x (take i S) ≡ false = ap (λ k. is_member k (take i S)) same ∙ is_member-take_next S i rises inside in
        let old : get_or table x None ≡ get_or before x None = rw fresh at (named.at x l) in
        rw (is_member-take_more S i x inside, fresh, eq-eqb x y same)
        (ap (λ k. get_or after k None) same ∙ here ∙ ap (λ k. larger_named sets (get_or table k None) place) (sym same)
        ∙ ap (λ entry. larger_named sets entry place) old))
    | inr other ↦ rw (is_member-take_more S i x inside, ne_eqb x y other, or_none (is_member x (take i S))) (there x other ∙ named.at x l)
  ];
}
  where
    y : ℕ
    y = get_or S i 0

-- the set at the place is larger than the one that was named
pub larger_found : (sets : List (List ℕ)) (place : ℕ) (S : List ℕ) (i : ℕ) (before table : List (Option ℕ)) → IsRising S → i < length S
    → S ≡ get_or sets place [] → get_or S i 0 < length table → ltb (size_named sets (get_or table (get_or S i 0) None)) (length S) ≡ true
    → AreLargerNamed sets place (take i S) before table
    → AreLargerNamed sets place (take (i + 1) S) before (set table (get_or S i 0) (Some place))
larger_found sets place S i before table rises inside is small larger named =
    let y = get_or S i 0 in
    let passes : ltb (size_named sets (get_or table y None)) (length (get_or sets place [])) ≡ true =
    ap (λ T. ltb (size_named sets (get_or table y None)) (length T)) (sym is) ∙ larger in
    larger_next sets place S i before table (set table y (Some place)) rises inside
    (get_or-set_same table y (Some place) None small ∙ sym (ap (λ b. cond b (Some place) (get_or table y None)) passes))
    (λ x other. get_or-set_other table y x (Some place) None other) named

-- it is not
pub larger_passed : (sets : List (List ℕ)) (place : ℕ) (S : List ℕ) (i : ℕ) (before table : List (Option ℕ)) → IsRising S → i < length S
    → S ≡ get_or sets place [] → ltb (size_named sets (get_or table (get_or S i 0) None)) (length S) ≡ false
    → AreLargerNamed sets place (take i S) before table → AreLargerNamed sets place (take (i + 1) S) before table
larger_passed sets place S i before table rises inside is larger named =
    let y = get_or S i 0 in
    let fails : ltb (size_named sets (get_or table y None)) (length (get_or sets place [])) ≡ false =
    ap (λ T. ltb (size_named sets (get_or table y None)) (length T)) (sym is) ∙ larger in
    larger_next sets place S i before table table rises inside
    (sym (ap (λ b. cond b (Some place) (get_or table y None)) fails)) (λ x other. refl) named

-- ---- each set in turn

pub AreLargestNamed-none : (sets : List (List ℕ)) (caps I : List ℕ) (count : ℕ) → AreLargestNamed sets caps I 0 count (replicate count None)
unfolding largest_filled
AreLargestNamed-none sets caps I count = record { at = λ x l. get_or-replicate {A = Option ℕ} count x None None l }

pub AreListed-none : (sets : List (List ℕ)) (count : ℕ) → AreListed sets (replicate count None)
AreListed-none sets count = All-replicate (λ entry. IfSome entry (λ i. i < length sets)) count None tt

-- whether the next set is filled, by its number of members
filled_by_number : (sets : List (List ℕ)) (caps I : List ℕ) (i number : ℕ) (b : Bool) → IsRising I → IsRising (get_or sets i [])
    → number ≡ length (intersection (get_or sets i []) I) → leb (get_or caps i 0) number ≡ b → is_filled sets caps I i ≡ b
filled_by_number sets caps I i number b rises risen counted is =
    ap (leb (get_or caps i 0)) (ap length (intersection-commute I (get_or sets i []) rises risen) ∙ sym counted) ∙ is

pub largest_met : (sets : List (List ℕ)) (caps I : List ℕ) (i count number : ℕ) (table after : List (Option ℕ)) → IsRising I
    → IsRising (get_or sets i []) → number ≡ length (intersection (get_or sets i []) I) → get_or caps i 0 ≤ number → length table ≡ count
    → AreLargerNamed sets i (get_or sets i []) table after → AreLargestNamed sets caps I i count table
    → AreLargestNamed sets caps I (i + 1) count after
unfolding largest_filled
largest_met sets caps I i count number table after rises risen counted most long larger named =
    rw (add-one i) (record {
      at = λ x l.
          let full = filled_by_number sets caps I i number true rises risen counted (le-leb (get_or caps i 0) number most) in
          rw full (larger.at x (omega arith) ∙ ap (λ entry. cond (is_member x (get_or sets i [])) (larger_named sets entry i) entry) (named.at x l));
    })

pub largest_passed : (sets : List (List ℕ)) (caps I : List ℕ) (i count number : ℕ) (table : List (Option ℕ)) → IsRising I
    → IsRising (get_or sets i []) → number ≡ length (intersection (get_or sets i []) I) → number < get_or caps i 0
    → AreLargestNamed sets caps I i count table → AreLargestNamed sets caps I (i + 1) count table
unfolding largest_filled
largest_passed sets caps I i count number table rises risen counted less named =
    rw (add-one i) (record {
      at = λ x l.
          let room = filled_by_number sets caps I i number false rises risen counted (lt-leb (get_or caps i 0) number less) in
          rw room (named.at x l);
    })

-- ---- which sets are named

-- a member before the next one, or that one
listed_more : (X : List ℕ) (k x : ℕ) → k < length X → (is_member x (take k X) ≡ true) ⊎ (x ≡ get_or X k 0) → is_member x (take (k + 1) X) ≡ true
listed_more X k x inside (inl earlier) = is_member-take_more X k x inside ∙ or_left (is_member x (take k X)) (eqb x (get_or X k 0)) earlier
listed_more X k x inside (inr now) =
    is_member-take_more X k x inside ∙ or_right (is_member x (take k X)) (eqb x (get_or X k 0)) (eq-eqb x (get_or X k 0) now)

-- a set is named for the next member
pub AreNamed-some : (named : ℕ → Option ℕ) (X chosen : List ℕ) (k place : ℕ) → k < length X → named (get_or X k 0) ≡ Some place
    → AreNamed named (take k X) chosen → AreNamed named (take (k + 1) X) (with_one chosen place)
AreNamed-some named X chosen k place inside is before = record {
  rising = IsRising-with_one chosen place before.rising;
  all = λ x i m names. elim (or_cases (is_member x (take k X)) (eqb x (get_or X k 0)) (sym (is_member-take_more X k x inside) ∙ m)) [
    | inl earlier ↦ is_member-with_one i place chosen ∙ or_right (eqb i place) (is_member i chosen) (before.all x i earlier names)
    | inr now ↦ (
        let same = same_Some i place (sym names ∙ ap named (eqb-true x (get_or X k 0) now) ∙ is) in
        is_member-with_one i place chosen ∙ or_left (eqb i place) (is_member i chosen) (eq-eqb i place same))
  ];
  only = λ i m. elim (or_cases (eqb i place) (is_member i chosen) (sym (is_member-with_one i place chosen) ∙ m)) [
    | inl now ↦ (get_or X k 0, listed_more X k (get_or X k 0) inside (inr refl), is ∙ ap Some (sym (eqb-true i place now)))
    | inr earlier ↦ (let found = before.only i earlier in (found.0, listed_more X k found.0 inside (inl found.1), found.2))
  ];
}

-- none is
pub AreNamed-more : (named : ℕ → Option ℕ) (X chosen : List ℕ) (k : ℕ) → k < length X → named (get_or X k 0) ≡ None
    → AreNamed named (take k X) chosen → AreNamed named (take (k + 1) X) chosen
AreNamed-more named X chosen k inside is before = record {
  rising = before.rising;
  all = λ x i m names. elim (or_cases (is_member x (take k X)) (eqb x (get_or X k 0)) (sym (is_member-take_more X k x inside) ∙ m)) [
    | inl earlier ↦ before.all x i earlier names
    | inr now ↦ absurd (never i (sym is ∙ ap named (sym (eqb-true x (get_or X k 0) now)) ∙ names))
  ];
  only = λ i m. let found = before.only i m in (found.0, listed_more X k found.0 inside (inl found.1), found.2);
}
  where
    never : (i : ℕ) → None ≡ Some i → ⊥
    never i e = cc

-- ---- by the table

-- the table tells the largest filled set that holds each member of a set
told : (sets : List (List ℕ)) (caps I : List ℕ) (count : ℕ) (table : List (Option ℕ)) (X : List ℕ) → IsSet count X
    → AreLargestNamed sets caps I (length sets) count table → (x : ℕ) → is_member x X ≡ true
    → get_or table x None ≡ largest_filled sets caps I (length sets) x
told sets caps I count table X inside named x m = named.at x (below_member inside m)

pub named_by_table : (sets : List (List ℕ)) (caps I : List ℕ) (count : ℕ) (table : List (Option ℕ)) (X chosen : List ℕ) → IsSet count X
    → AreLargestNamed sets caps I (length sets) count table → AreNamed (λ x. get_or table x None) X chosen
    → AreNamed (largest_filled sets caps I (length sets)) X chosen
named_by_table sets caps I count table X chosen inside named by = record {
  rising = by.rising;
  all = λ x i m is. by.all x i m (told sets caps I count table X inside named x m ∙ is);
  only = λ i m. let found = by.only i m in (found.0, found.1, sym (told sets caps I count table X inside named found.0 found.1) ∙ found.2);
}

pub unnamed_by_table : (sets : List (List ℕ)) (caps I : List ℕ) (count : ℕ) (table : List (Option ℕ)) (X : List ℕ) → IsSet count X
    → AreLargestNamed sets caps I (length sets) count table
    → filter (λ x. is_unnamed (get_or table x None)) X ≡ filter (λ x. is_unnamed (largest_filled sets caps I (length sets) x)) X
unnamed_by_table sets caps I count table X inside named =
    filter_same_at (λ x. is_unnamed (get_or table x None)) (λ x. is_unnamed (largest_filled sets caps I (length sets) x)) X
    (λ x m. ap is_unnamed (told sets caps I count table X inside named x m))

-- an entry that is asked for
pub unnamed_where_none : (entry : Option ℕ) (answer : Bool) → is_some entry ≡ not answer → is_unnamed entry ≡ answer
unnamed_where_none None false is = absurd (both_ways false refl is)
unnamed_where_none (Some i) true is = absurd (both_ways false refl (sym is))
unnamed_where_none _ _ is = refl
