-- An independent set inside a covered one has at most as many members as the bound: some of its members are among the elements that count
-- themselves, and of each chosen set it has at most the cap.
use Rattle.mat_witness.proofs.Common.{◌≡◌, ℕ, ◌+◌, ◌≤◌, Bool, true, false, ◌||◌, leb, List, [], ◌∷◌, length, get_or, inl, inr, refl, ap, subst, arith, and_parts, and_from, both_ways, leb-true, le-leb, or_cases, All-from_get_or, All-get_or, AllPass-from_list_all, list_all-from_AllPass, is_member}
use Rattle.mat_witness.proofs.Common.{all_below, AllBelow, IsRising, IsSet, IsSubset, minus, intersection, is_set, length-minus-intersection, no_members, IsRising-intersection, IsRising-minus, is_member-get_or, place_of_member, set_members, IsSet-from_test, intersection-left, intersection-right}
use Rattle.mat_witness.proofs.Common.{length-subset, is_counted, is_uniform, is_within_caps, IsWithinCaps, IsWithinCaps-from_test, IsLaminar, are_covered, caps_sum, is_in_chosen}
use Rattle.mat_count.specs.PartitionLaws.{IsLaminarFamily-from_disjoint}
use Rattle.mat_count.specs.Partitions.{IsPartition}

-- what is left of a set outside S is within the caps too
within_less : (sets : List (List ℕ)) (caps X S : List ℕ) → IsRising X → IsWithinCaps sets caps X → IsWithinCaps sets caps (minus X S)
within_less sets caps X S rising within = record {
  at = λ i l.
      let T = get_or sets i [] in
      let part : IsSubset (intersection (minus X S) T) (intersection X T) = record { inside = λ k m. grind (arith, set_members) } in
      let fewer = length-subset _ _ (IsRising-intersection _ T (IsRising-minus X S rising)) (IsRising-intersection X T rising) part in
      let most = within.at i l in
      omega arith;
}

-- a member of X outside the first chosen set is in a later one
in_later : (sets : List (List ℕ)) (i : ℕ) (chosen X : List ℕ) → ((x : ℕ) → is_member x X ≡ true → is_in_chosen sets (i ∷ chosen) x ≡ true) → (x : ℕ)
    → is_member x (minus X (get_or sets i [])) ≡ true → is_in_chosen sets chosen x ≡ true
in_later sets i chosen X all x h =
    let S = get_or sets i [] in
    let inside : is_member x X ≡ true = grind (arith, set_members) in
    let outside : is_member x S ≡ false = grind (arith, set_members) in
    elim (or_cases (is_member x S) (is_in_chosen sets chosen x) (all x inside)) [
      | inl here ↦ absurd (both_ways (is_member x S) outside here)
      | inr later ↦ later
    ]

-- a set within the caps, each member of which is in a chosen set, has at most as many members as the caps of these together
most_in_chosen : (sets : List (List ℕ)) (caps chosen X : List ℕ) → AllBelow (length sets) chosen → IsRising X → IsWithinCaps sets caps X
    → ((x : ℕ) → is_member x X ≡ true → is_in_chosen sets chosen x ≡ true) → length X ≤ caps_sum caps chosen
most_in_chosen sets caps [] X below rising within all =
    let none = ap length (no_members X (λ x m. both_ways false refl (all x m))) in omega arith
most_in_chosen sets caps (i ∷ chosen) X below rising within all =
    let S = get_or sets i [] in
    let split = length-minus-intersection X S rising in
    let here = within.at i below.0 in
    let rest = most_in_chosen sets caps chosen (minus X S) below.1 (IsRising-minus X S rising) (within_less sets caps X S rising within)
    (in_later sets i chosen X all) in
    omega arith

-- ---- covered sets

-- each member is one of the elements or in a chosen set
pub covered_at : (sets : List (List ℕ)) (elements chosen F : List ℕ) → are_covered sets elements chosen F ≡ true → (x : ℕ) → is_member x F ≡ true
    → (is_member x elements || is_in_chosen sets chosen x) ≡ true
covered_at sets elements chosen F covered x m =
    let passes : ℕ → Bool = λ y. is_member y elements || is_in_chosen sets chosen y in
    let place = place_of_member x F m in
    subst (λ y. passes y ≡ true) place.2 (All-get_or (λ y. passes y ≡ true) F place.0 0 place.1 (AllPass-from_list_all passes F covered))

-- and a set is covered where each member is
pub covered_from : (sets : List (List ℕ)) (elements chosen F : List ℕ)
    → ((x : ℕ) → is_member x F ≡ true → (is_member x elements || is_in_chosen sets chosen x) ≡ true) → are_covered sets elements chosen F ≡ true
covered_from sets elements chosen F all =
    let passes : ℕ → Bool = λ x. is_member x elements || is_in_chosen sets chosen x in
    list_all-from_AllPass passes F (All-from_get_or (λ x. passes x ≡ true) F 0 (λ i l.
    all (get_or F i 0) (is_member-get_or F i (get_or F i 0) l refl)))

-- ---- the bounds

-- the rank of a covered set is at most the number of the elements and the caps of the chosen sets
pub counted_bound_holds : (n : ℕ) (sets : List (List ℕ)) (caps : List ℕ) → length caps ≡ length sets → (elements chosen F I : List ℕ)
    → IsSet n elements → IsSet (length sets) chosen → are_covered sets elements chosen F ≡ true → is_counted n sets caps I ≡ true → IsSubset I F
    → length I ≤ length elements + caps_sum caps chosen
counted_bound_holds n sets caps capped elements chosen F I spent listed covered passes inside =
    let tests = and_parts (is_set n I) (is_within_caps sets caps I) passes in
    let set = IsSet-from_test n I tests.0 in
    let within = IsWithinCaps-from_test sets caps I capped tests.1 in
    let split = length-minus-intersection I elements set.rising in
    let few = length-subset _ _ (IsRising-intersection I elements set.rising) spent.rising (intersection-right I elements) in
    let rest = most_in_chosen sets caps chosen (minus I elements) listed.below (IsRising-minus I elements set.rising)
    (within_less sets caps I elements set.rising within) (λ x m. left x m) in
    omega arith
  where
    left : (x : ℕ) → is_member x (minus I elements) ≡ true → is_in_chosen sets chosen x ≡ true
    left x m =
        let member : is_member x I ≡ true = grind (arith, set_members) in
        let outside : is_member x elements ≡ false = grind (arith, set_members) in
        let either = covered_at sets elements chosen F covered x (inside.inside x member) in
        elim (or_cases (is_member x elements) (is_in_chosen sets chosen x) either) [
          | inl here ↦ absurd (both_ways (is_member x elements) outside here)
          | inr later ↦ later
        ]

-- the same in a uniform matroid, whose one listed set has all elements
pub uniform_bound_holds : (n cap : ℕ) (elements chosen F I : List ℕ) → IsSet n elements → IsSet 1 chosen
    → are_covered (all_below n ∷ []) elements chosen F ≡ true → is_uniform n cap I ≡ true → IsSubset I F
    → length I ≤ length elements + caps_sum (cap ∷ []) chosen
uniform_bound_holds n cap elements chosen F I spent listed covered passes inside =
    let tests = and_parts (is_set n I) (leb (length I) cap) passes in
    let set = IsSet-from_test n I tests.0 in
    let most = leb-true (length I) cap tests.1 in
    let fewer = length-subset _ _ (IsRising-intersection I (all_below n) set.rising) set.rising (intersection-left I (all_below n)) in
    let within = and_from (leb (length (intersection I (all_below n))) cap) true (le-leb (length (intersection I (all_below n))) cap (omega arith)) refl in
    counted_bound_holds n (all_below n ∷ []) (cap ∷ []) refl elements chosen F I spent listed covered
    (and_from (is_set n I) (is_within_caps (all_below n ∷ []) (cap ∷ []) I) tests.0 within) inside

-- classes that share no member are a laminar family
pub disjoint_is_laminar : (n : ℕ) (classes : List (List ℕ)) (caps : List ℕ) → IsPartition n classes caps → IsLaminar n classes caps
disjoint_is_laminar n classes caps partition = record {
  capped = partition.capped;
  inside = partition.inside;
  family = IsLaminarFamily-from_disjoint classes partition.disjoint;
}
