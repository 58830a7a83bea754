-- The bound that the largest filled sets make: on the members of the independent set they are apart, so that their caps are together the number
-- of its members in them; and each other element of the bounded set is one of its members, since it could be added.
use Rattle.mat_witness.proofs.Common.{◌≡◌, ℕ, ◌+◌, ◌<◌, ◌≤◌, Bool, true, false, ◌||◌, Option, Some, None, List, [], ◌∷◌, length, get_or, inl, inr, refl, sym, ap, ◌∙◌, subst, arith, and_from, and_parts, both_ways, cases_Bool, false_from_ne_true, leb-true, leb-false, or_left, or_right}
use Rattle.mat_witness.proofs.Common.{true_from_ne_false, list_any_at, same_Some, is_member, AreDistinct, IsRising, IsSet, IsSubset, intersection, minus, with_one, is_set, length-minus-intersection, IsRising-filter, AreDistinct-rising, IsSet-from, IsSet-subset, below_member, is_member-tail}
use Rattle.mat_witness.proofs.Common.{IsRising-intersection, IsRising-minus, is_member-filter, is_member-head, place_of_member, same_members, set_members, IsSet-from_test, is_set-with_one, length-subset, IsMaximal, is_counted, is_within_caps, IsWithinCaps, IsWithinCaps-from_test, counted_more}
use Rattle.mat_witness.proofs.Common.{counted_same, test_from-IsWithinCaps, IsLaminar, are_covered, caps_sum, is_in_chosen, AreNamed, is_unnamed, largest_filled, AreSpent}
use Rattle.std.specs.List.{filter}
use Rattle.mat_witness.proofs.CountedParts.{covered_from}
use Rattle.mat_witness.proofs.LargestFilled.{IsLargest, Tells, named_for_member, tells_largest}

-- ---- chosen sets that are apart

-- X has in each chosen set at least its cap of members; no two of these sets share a member, and none of the elements, which are members of X,
-- stands in one of them
record AreApart (sets : List (List ℕ)) (caps X elements chosen : List ℕ) : Type 0 where
  pub rising : IsRising X
  pub spent : IsRising elements
  pub inside : IsSubset elements X
  pub outside : (x i : ℕ) → is_member i chosen ≡ true → is_member x elements ≡ true → is_member x (get_or sets i []) ≡ false
  pub once : (x i j : ℕ) → is_member i chosen ≡ true → is_member j chosen ≡ true → is_member x (get_or sets i []) ≡ true
      → is_member x (get_or sets j []) ≡ true → i ≡ j
  pub filled : (i : ℕ) → is_member i chosen ≡ true → get_or caps i 0 ≤ length (intersection X (get_or sets i []))

-- without the first of them and its members
rest_apart : (sets : List (List ℕ)) (caps X elements : List ℕ) (i : ℕ) (chosen : List ℕ) → is_member i chosen ≡ false
    → AreApart sets caps X elements (i ∷ chosen) → AreApart sets caps (minus X (get_or sets i [])) elements chosen
rest_apart sets caps X elements i chosen new a = record {
  rising = IsRising-minus X S a.rising;
  spent = a.spent;
  inside = record { inside = λ k h. let member = a.inside.inside k h in let out = a.outside k i (is_member-head i chosen) h in grind (arith, set_members) };
  outside = λ x j m h. a.outside x j (is_member-tail j i chosen m) h;
  once = λ x j k m o here there. a.once x j k (is_member-tail j i chosen m) (is_member-tail k i chosen o) here there;
  filled = λ j m.
      let most = a.filled j (is_member-tail j i chosen m) in
      let same = ap length (kept j m) in
      omega arith;
}
  where
    S : List ℕ
    S = get_or sets i []

    apart : (j : ℕ) → is_member j chosen ≡ true → (k : ℕ) → is_member k (get_or sets j []) ≡ true → is_member k S ≡ false
    apart j m k h = false_from_ne_true _ (λ here.
        let same = a.once k i j (is_member-head i chosen) (is_member-tail j i chosen m) here h in
        both_ways (is_member j chosen) (subst (λ p. is_member p chosen ≡ false) same new) m)

    kept : (j : ℕ) → is_member j chosen ≡ true → intersection (minus X S) (get_or sets j []) ≡ intersection X (get_or sets j [])
    kept j m =
        same_members _ _ (IsRising-intersection _ (get_or sets j []) (IsRising-minus X S a.rising)) (IsRising-intersection X (get_or sets j []) a.rising)
        (λ k. let out = apart j m k in grind (arith, set_members))

-- the elements and the caps are together at most the members of X
number_apart : (sets : List (List ℕ)) (caps X elements chosen : List ℕ) → AreDistinct chosen → AreApart sets caps X elements chosen
    → length elements + caps_sum caps chosen ≤ length X
number_apart sets caps X elements [] distinct a = let fewer = length-subset elements X a.spent a.rising a.inside in omega arith
number_apart sets caps X elements (i ∷ chosen) distinct a =
    let S = get_or sets i [] in
    let split = length-minus-intersection X S a.rising in
    let here = a.filled i (is_member-head i chosen) in
    let rest = number_apart sets caps (minus X S) elements chosen distinct.1 (rest_apart sets caps X elements i chosen distinct.0 a) in
    omega arith

-- ---- what is named for each element

pub maximal_inside : (n : ℕ) (sets : List (List ℕ)) (caps F I : List ℕ) → IsMaximal (is_counted n sets caps) F I → IsSet n I
maximal_inside n sets caps F I maximal = IsSet-from_test n I (and_parts (is_set n I) (is_within_caps sets caps I) maximal.passes).0

module _ {n : ℕ} {sets : List (List ℕ)} {caps F I elements chosen : List ℕ} (sound : IsLaminar n sets caps)
    (rises : (i : ℕ) → i < length sets → IsRising (get_or sets i [])) (set : IsSet n F) (maximal : IsMaximal (is_counted n sets caps) F I)
    (named : AreNamed (largest_filled sets caps I (length sets)) F chosen)
    (unnamed : elements ≡ filter (λ x. is_unnamed (largest_filled sets caps I (length sets) x)) I) where
  abbrev entry : ℕ → Option ℕ
  entry = largest_filled sets caps I (length sets)

  inside_ground : IsSet n I
  inside_ground = maximal_inside n sets caps F I maximal

  within : IsWithinCaps sets caps I
  within = IsWithinCaps-from_test sets caps I sound.capped (and_parts (is_set n I) (is_within_caps sets caps I) maximal.passes).1

  -- the set that is named for x is the largest, and where none is named x is in no filled one
  largest_at : (x j : ℕ) → entry x ≡ Some j → IsLargest sets caps I (length sets) x j
  largest_at x j is = subst (Tells sets caps I (length sets) x) is (tells_largest sets caps I (length sets) x)

  none_at : (x : ℕ) → entry x ≡ None → Tells sets caps I (length sets) x None
  none_at x is = subst (Tells sets caps I (length sets) x) is (tells_largest sets caps I (length sets) x)

  -- each chosen set is the largest for some element
  chosen_largest : (i : ℕ) → is_member i chosen ≡ true → (x : ℕ) × IsLargest sets caps I (length sets) x i
  chosen_largest i m = let found = named.only i m in (found.0, largest_at found.0 i found.2)

  -- ---- the elements that count themselves

  is_element : (x : ℕ) → is_member x elements ≡ true → (is_member x I ≡ true) × (is_unnamed (entry x) ≡ true)
  is_element x m = and_parts (is_member x I) (is_unnamed (entry x))
      (sym (is_member-filter (λ y. is_unnamed (entry y)) x I) ∙ subst (λ E. is_member x E ≡ true) unnamed m)

  unnamed_none : (o : Option ℕ) → is_unnamed o ≡ true → o ≡ None
  unnamed_none None h = refl
  unnamed_none (Some i) h = absurd (both_ways false refl h)

  elements_rise : IsRising elements
  elements_rise = subst IsRising (sym unnamed) (IsRising-filter (λ y. is_unnamed (entry y)) I inside_ground.rising)

  elements_inside : IsSubset elements I
  elements_inside = record { inside = λ x m. (is_element x m).0 }

  pub are_spent : AreSpent n (length sets) elements chosen
  are_spent = record {
    elements_inside = IsSet-subset n elements I elements_rise elements_inside inside_ground;
    chosen_inside = IsSet-from (length sets) chosen named.rising (λ i m. (chosen_largest i m).1.before);
  }

  -- ---- the number

  apart : AreApart sets caps I elements chosen
  apart = record {
    rising = inside_ground.rising;
    spent = elements_rise;
    inside = elements_inside;
    outside = λ x i m h. false_from_ne_true _ (λ here.
        let one = (chosen_largest i m).1 in
        none_at x (unnamed_none (entry x) (is_element x h).1) i one.before one.filled here);
    once = λ x i j m o here there. same_Some i j
        (sym (named_for_member sets caps I sound.family rises _ x i (chosen_largest i m).1 here)
        ∙ named_for_member sets caps I sound.family rises _ x j (chosen_largest j o).1 there);
    filled = λ i m. leb-true (get_or caps i 0) (length (intersection I (get_or sets i []))) (chosen_largest i m).1.filled;
  }

  pub filled_number : length elements + caps_sum caps chosen ≤ length I
  filled_number = number_apart sets caps I elements chosen (AreDistinct-rising chosen named.rising) apart

  -- ---- what is covered

  -- an element outside I that is in no filled set could be added
  addable : (x : ℕ) → x < n → is_member x I ≡ false → entry x ≡ None → is_counted n sets caps (with_one I x) ≡ true
  addable x small outside is =
      and_from (is_set n (with_one I x)) (is_within_caps sets caps (with_one I x)) (is_set-with_one n I x inside_ground small)
      (test_from-IsWithinCaps sets caps (with_one I x) (record {
        at = λ i l. elim (cases_Bool (is_member x (get_or sets i []))) [
          | inl here ↦ (
              let more = counted_more (get_or sets i []) I x inside_ground.rising outside here in
              let room = leb-false (get_or caps i 0) (length (intersection I (get_or sets i [])))
              (false_from_ne_true _ (λ full. none_at x is i l full here)) in
              omega arith)
          | inr away ↦ (
              let same = ap length (counted_same (get_or sets i []) I x inside_ground.rising away) in
              let most = within.at i l in
              omega arith)
        ];
      }))

  in_inside : (x : ℕ) → is_member x F ≡ true → entry x ≡ None → is_member x I ≡ true
  in_inside x m is = true_from_ne_false _ (λ outside. both_ways _ (maximal.full x m outside) (addable x (below_member set m) outside is))

  covered_by : (x : ℕ) → is_member x F ≡ true → (o : Option ℕ) → entry x ≡ o → (is_member x elements || is_in_chosen sets chosen x) ≡ true
  covered_by x m None is =
      or_left (is_member x elements) (is_in_chosen sets chosen x)
      (subst (λ E. is_member x E ≡ true) (sym unnamed) (is_member-filter (λ y. is_unnamed (entry y)) x I
      ∙ and_from (is_member x I) (is_unnamed (entry x)) (in_inside x m is) (ap is_unnamed is)))
  covered_by x m (Some j) is =
      let holds : ℕ → Bool = λ i. is_member x (get_or sets i []) in
      let place = place_of_member j chosen (named.all x j m is) in
      or_right (is_member x elements) (is_in_chosen sets chosen x) (list_any_at holds chosen place.0 0 place.1
      (subst (λ i. holds i ≡ true) (sym place.2) (largest_at x j is).holds))

  pub filled_shows : are_covered sets elements chosen F ≡ true
  filled_shows = covered_from sets elements chosen F (λ x m. covered_by x m (entry x) refl)
