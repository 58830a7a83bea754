-- Two sets that share a member, and of which neither lies inside the other, cross.
use Rattle.mat_count.proofs.Common.{◌≡◌, ◌↔◌, ℕ, ◌≤◌, Bool, true, false, not, Option, Some, None, refl, ◌&&◌, List, [], inl, inr, sym, ◌∙◌, arith, is_some, and_from, and_parts, both_ways, false_from_ne_true, nil_from_length, is_member, intersection, IsSubset, some_member, is_member-filter}
use Rattle.mat_count.proofs.Common.{subset_or, crosses, Crosses-from_test, test_from-Crosses}
use Rattle.mat_sets.specs.Search.{IsNextFrom}

pub crosses-apart : (A B : List ℕ) → ((x : ℕ) → 0 ≤ x → (is_member x A && is_member x B) ≡ false) → crosses A B ≡ false
crosses-apart A B none = false_from_ne_true (crosses A B) (λ h.
    let c = Crosses-from_test A B h in
    both_ways (is_member c.shared A && is_member c.shared B) (none c.shared (omega arith))
    (and_from (is_member c.shared A) (is_member c.shared B) c.shared_in_first c.shared_in_second))

pub crosses-inside : (A B : List ℕ) → IsSubset A B → crosses A B ≡ false
crosses-inside A B all = false_from_ne_true (crosses A B) (λ h.
    let c = Crosses-from_test A B h in
    both_ways (is_member c.first B) c.first_outside (all.inside c.first c.first_inside))

pub crosses-around : (A B : List ℕ) → IsSubset B A → crosses A B ≡ false
crosses-around A B all = false_from_ne_true (crosses A B) (λ h.
    let c = Crosses-from_test A B h in
    both_ways (is_member c.second A) c.second_outside (all.inside c.second c.second_inside))

pub crosses-parted : (A B : List ℕ) (x : ℕ) → (is_member x A && is_member x B) ≡ true → (IsSubset A B → ⊥) → (IsSubset B A → ⊥)
    → crosses A B ≡ true
crosses-parted A B x shared first second =
    let both = and_parts (is_member x A) (is_member x B) shared in
    elim (subset_or A B) [
      | inl inside ↦ absurd (first inside)
      | inr one ↦ elim (subset_or B A) [
        | inl around ↦ absurd (second around)
        | inr other ↦ test_from-Crosses A B (record {
          shared = x;
          first = one.0;
          second = other.0;
          shared_in_first = both.0;
          shared_in_second = both.1;
          first_inside = one.1;
          first_outside = one.2;
          second_inside = other.1;
          second_outside = other.2;
        })
      ]
    ]

-- no common number was found
pub crosses-unshared : (A B : List ℕ) (found : Option ℕ) → IsNextFrom (λ x. is_member x A && is_member x B) 0 found → is_some found ≡ false
    → crosses A B ≡ false
crosses-unshared A B None none h = crosses-apart A B none
crosses-unshared A B (Some x) first h = absurd (both_ways true h refl)

-- one was found, and the first set does not lie inside the second
pub crosses-shared : (A B : List ℕ) (found : Option ℕ) (inside around : Bool) → IsNextFrom (λ x. is_member x A && is_member x B) 0 found
    → is_some found ≡ true → ((inside ≡ true) ↔ IsSubset A B) → inside ≡ false → ((around ≡ true) ↔ IsSubset B A)
    → crosses A B ≡ not around
crosses-shared A B None inside around none h is k round = absurd (both_ways false refl h)
crosses-shared A B (Some x) true around first h is k round = absurd (both_ways true k refl)
crosses-shared A B (Some x) false true first h is k round = crosses-around A B (round.0 refl)
crosses-shared A B (Some x) false false first h is k round =
    crosses-parted A B x first.passes (λ all. both_ways false refl (is.1 all)) (λ all. both_ways false refl (round.1 all))

-- ---- by the intersection

pub crosses-unmet : (A B : List ℕ) → intersection A B ≡ [] → crosses A B ≡ false
unfolding crosses
crosses-unmet A B none = rw none refl

pub crosses-met : (A B : List ℕ) (apart inside around : Bool) → ((apart ≡ true) ↔ (intersection A B ≡ [])) → apart ≡ false
    → ((inside ≡ true) ↔ IsSubset A B) → inside ≡ false → ((around ≡ true) ↔ IsSubset B A) → crosses A B ≡ not around
unfolding intersection
crosses-met A B apart true around unmet h is k round = absurd (both_ways true k refl)
crosses-met A B apart false true unmet h is k round = crosses-around A B (round.0 refl)
crosses-met A B apart false false unmet h is k round =
    let some = some_member (intersection A B) (λ none. both_ways apart h (unmet.1 (nil_from_length (intersection A B) none))) in
    crosses-parted A B some.0 (sym (is_member-filter (λ x. is_member x B) some.0 A) ∙ some.1)
    (λ all. both_ways false refl (is.1 all)) (λ all. both_ways false refl (round.1 all))
