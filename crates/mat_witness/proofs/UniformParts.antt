-- Bounds in a uniform matroid: its one listed set has all elements, so that any set is covered where it is chosen.
use Rattle.mat_witness.proofs.Common.{◌≡◌, ℕ, ◌+◌, ◌<◌, ◌≤◌, true, false, cond, eqb, leb, Some, None, List, [], ◌∷◌, length, refl, sym, ap, ◌∙◌, arith, and_parts, both_ways, eqb-true, false_from_ne_true, lt-ltb, or_left, or_right, true_from_ne_false, is_member, all_below, IsSet, IsSubset, with_one}
use Rattle.mat_witness.proofs.Common.{is_set, IsSet-nil, below_member, is_member-all_below, IsSet-from_test, or_none, IsMaximal, is_uniform, are_covered, caps_sum, is_in_chosen, AreSpent}
use Rattle.mat_count.proofs.UniformRows.{uniform-with_one}
use Rattle.mat_witness.proofs.CountedParts.{covered_at, covered_from}

-- the one set that can be chosen
one_chosen : (chosen : List ℕ) → IsSet 1 chosen → eqb (length chosen) 0 ≡ false → chosen ≡ 0 ∷ []
one_chosen [] listed some = absurd (both_ways (eqb 0 0) some refl)
one_chosen (i ∷ []) listed some = let small = listed.below.0 in ap (λ k. k ∷ []) (zero i small)
  where
    zero : (i : ℕ) → i < 1 → i ≡ 0
    zero i small = omega arith
one_chosen (i ∷ j ∷ chosen) listed some =
    absurd (let low = listed.rising.rises.1.0 in let high = listed.below.1.0 in omega arith)

none_chosen : (chosen : List ℕ) → eqb (length chosen) 0 ≡ true → chosen ≡ []
none_chosen [] none = refl
none_chosen (i ∷ chosen) none = absurd (let zero = eqb-true (length (i ∷ chosen)) 0 none in omega arith)

-- by the set of all elements
pub all_covered : (n : ℕ) (elements F : List ℕ) → IsSet n F → are_covered (all_below n ∷ []) elements (0 ∷ []) F ≡ true
all_covered n elements F set = covered_from (all_below n ∷ []) elements (0 ∷ []) F (λ x m.
    or_right (is_member x elements) (is_in_chosen (all_below n ∷ []) (0 ∷ []) x)
    (or_left (is_member x (all_below n)) false (is_member-all_below x n ∙ lt-ltb x n (below_member set m))))

-- by the elements
pub elements_cover : (sets : List (List ℕ)) (elements F : List ℕ) → IsSubset F elements → are_covered sets elements [] F ≡ true
elements_cover sets elements F inside = covered_from sets elements [] F (λ x m. or_left (is_member x elements) false (inside.inside x m))

-- ---- the answers

pub bound_by_all : (n cap : ℕ) (elements chosen F : List ℕ) → IsSet n F → IsSet 1 chosen → eqb (length chosen) 0 ≡ false
    → Some (length elements + cap)
    ≡ cond (are_covered (all_below n ∷ []) elements chosen F) (Some (length elements + caps_sum (cap ∷ []) chosen)) None
bound_by_all n cap elements chosen F set listed some =
    rw (one_chosen chosen listed some, all_covered n elements F set) (ap Some (added (length elements) cap))
  where
    added : (k cap : ℕ) → k + cap ≡ k + (cap + 0)
    added k cap = omega arith

pub bound_by_elements : (n cap : ℕ) (elements chosen F : List ℕ) → eqb (length chosen) 0 ≡ true → IsSubset F elements
    → Some (length elements)
    ≡ cond (are_covered (all_below n ∷ []) elements chosen F) (Some (length elements + caps_sum (cap ∷ []) chosen)) None
bound_by_elements n cap elements chosen F none inside =
    rw (none_chosen chosen none, elements_cover (all_below n ∷ []) elements F inside) (ap Some (same (length elements)))
  where
    same : (k : ℕ) → k ≡ k + 0
    same k = omega arith

pub bound_by_none : (n cap : ℕ) (elements chosen F : List ℕ) → eqb (length chosen) 0 ≡ true → (IsSubset F elements → ⊥)
    → None ≡ cond (are_covered (all_below n ∷ []) elements chosen F) (Some (length elements + caps_sum (cap ∷ []) chosen)) None
bound_by_none n cap elements chosen F none never =
    rw (
      none_chosen chosen none,
      false_from_ne_true (are_covered (all_below n ∷ []) elements [] F) (λ covered.
          never (record {
            inside = λ x m. sym (or_none (is_member x elements)) ∙ covered_at (all_below n ∷ []) elements [] F covered x m;
          })),
    )

-- ---- the bound of a maximal independent subset

-- it has the cap's number of members, and so does the set of all elements
pub all_spent : (n : ℕ) → AreSpent n 1 [] (with_one [] 0)
unfolding with_one
all_spent n = record { elements_inside = IsSet-nil n; chosen_inside = record { rising = record { rises = (omega arith, tt) }; below = (omega arith, tt) } }

pub all_shows : (n : ℕ) (F : List ℕ) → IsSet n F → are_covered (all_below n ∷ []) [] (with_one [] 0) F ≡ true
unfolding with_one
all_shows n F set = all_covered n [] F set

pub all_number : (cap k : ℕ) → cap ≤ k → length {A = ℕ} [] + caps_sum (cap ∷ []) (with_one [] 0) ≤ k
unfolding with_one
all_number cap k most = omega arith

-- or each element of the set is its member, since it could be added
pub room_spent : (n cap : ℕ) (I : List ℕ) → is_uniform n cap I ≡ true → AreSpent n 1 I []
room_spent n cap I passes =
    record { elements_inside = IsSet-from_test n I (and_parts (is_set n I) (leb (length I) cap) passes).0; chosen_inside = IsSet-nil 1 }

pub room_shows : (n cap : ℕ) (F I : List ℕ) → IsSet n F → IsMaximal (is_uniform n cap) F I → length I < cap
    → are_covered (all_below n ∷ []) I [] F ≡ true
room_shows n cap F I set maximal room =
    elements_cover (all_below n ∷ []) I F (record {
      inside = λ x m. true_from_ne_false _ (λ outside.
          both_ways _ (maximal.full x m outside) (uniform-with_one n cap I x (room_spent n cap I maximal.passes).elements_inside (below_member set m) outside
          ∙ lt-ltb (length I) cap room));
    })
