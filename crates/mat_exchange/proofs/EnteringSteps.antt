-- The growing search lets an element of the fringe enter. The change until then is put on its weights, so that with the change taken off all is as after
-- the change of the set without it, and no sink came before.
use Rattle.mat_exchange.proofs.Common.{◌≡◌, ℕ, ◌^◌, ◌<◌, true, false, ◌≢◌, ◌&&◌, cond, eqb, List, length, Option, Some, refl, sym, ◌∙◌, subst, arith, both_ways, cond-false, and_parts, ne_eqb, ints, is_member, with_one, without_one, zero_weight, ◌⊕◌, ◌⊖◌, ◌≺◌, ◌≼◌, weight_at, IsWeightWithin, Weight}
use Rattle.mat_exchange.proofs.Common.{pairs, Exchange, exchanges_in, change_room, lowered, raised, IsHeaviestWeightOrNone, greater_of, NextStep, Enter, IsEntry, IsFringe, IsOffered, IsNextStep, leads, entry_gain, excess_of, sum_at}
use Rattle.mat_exchange.proofs.Growing.{IsGrowing, others_outside}
use Rattle.mat_exchange.proofs.GrowthChanges.{growing_by, enters_late, fringe_changed, entry_not_above, levelled_by_entry}
use Rattle.mat_exchange.proofs.GrowthEntries.{growing_more, fringe_entered, fringe_without}
use Rattle.mat_exchange.proofs.WeightChanges.{raised-member}
use Rattle.mat_exchange.proofs.ChangesSoFar.{lowered_twice, raised_twice, lowered_entered, raised_entered, fringe_same, gains_left, offered_raised}
use Rattle.mat_exchange.proofs.ChangesSoFar.{entry_raised, entered_heaviest, top_stays}
use mathlib.Core.Path.{fun_ext}
use Rattle.mat_exchange.proofs.NewMembers.{new_member}
use Rattle.mat_exchange.proofs.GrowthSteps.{IsShifted, IsGrowth, gain_small, fringe_below, late_from_here}

-- what comes before comes no later
no_later : (a b : Weight) → a ≺ b → a ≼ b
no_later a b less = omega (arith, ints)

module _ {n : ℕ} {I : List ℕ} {first second : List Exchange} {u1 u2 : List Weight} {root : ℕ} {R O F : List ℕ} {total : Weight}
    {w1 w2 g : List Weight} {top inside : Option Weight} (now : IsGrowth n I first second u1 u2 root R O F total w1 w2 g top inside) where
  module _ {slack : Option Weight} (from : slack ≡ excess_of top inside) {step : NextStep} {x : ℕ} {d : Weight} (is : step ≡ Enter x d)
      (next : IsNextStep F (weight_at g) slack step) where
    enters : (is_member x F ≡ true) × (weight_at g x ⊕ d ≡ zero_weight)
        × ((y : ℕ) → is_member y F ≡ true → (weight_at g y ⊕ d) ≼ zero_weight)
        × ((earlier : Weight) → slack ≡ Some earlier → d ≺ earlier)
    enters = subst (IsNextStep F (weight_at g) slack) is next

    pub enter_below : x < n
    enter_below = fringe_below now x enters.0

    pub enter_outside : is_member x R ≡ false
    enter_outside = others_outside now.shifted.growing x (now.fringe.within x enters.0)

    pub enter_within : IsWeightWithin change_room d
    enter_within = flipped (weight_at g x) d enters.1 (gain_small now x enters.0)
      where
        flipped : (a d : Weight) → a ⊕ d ≡ zero_weight → IsWeightWithin (10 ^ 29) a → IsWeightWithin change_room d
        flipped a d e within = omega (arith, ints, pairs)

    -- by how much the change is more than so far
    further : Weight
    further = d ⊖ total

    entry_now : IsEntry (exchanges_in first) (exchanges_in second) (lowered (weight_at w1) R total) (raised (weight_at w2) R total) root R x
        (weight_at g x ⊕ total)
    entry_now = subst (IsEntry (exchanges_in first) (exchanges_in second) (lowered (weight_at w1) R total) (raised (weight_at w2) R total) root R x)
        (raised-member (weight_at g) F total x enters.0) (now.fringe.has x enters.0)

    level : (weight_at g x ⊕ total) ⊕ further ≡ zero_weight
    unfolding further
    level = level_at (weight_at g x) enters.1
      where
        level_at : (a : Weight) → a ⊕ d ≡ zero_weight → (a ⊕ total) ⊕ (d ⊖ total) ≡ zero_weight
        level_at a e = omega (arith, ints, pairs)

    further_low : zero_weight ≼ further
    further_low = low (weight_at g x ⊕ total) further level
        (entry_not_above now.shifted.growing x
        (weight_at g x ⊕ total) enter_below entry_now)
      where
        low : (a c : Weight) → a ⊕ c ≡ zero_weight → a ≼ zero_weight → zero_weight ≼ c
        low a c e le = omega (arith, ints, pairs)

    total_low : total ≼ d
    unfolding further
    total_low = let low = further_low in omega (arith, ints, pairs)

    last : (y : ℕ) → is_member y F ≡ true → (raised (weight_at g) F total y ⊕ further) ≼ zero_weight
    unfolding further
    last = late_from_here now d enters.2

    grown_further : IsGrowing n (exchanges_in first) (exchanges_in second) (sum_at (weight_at u1) (weight_at u2)) (weight_at u2) root R O
        (lowered (lowered (weight_at w1) R total) R further) (raised (raised (weight_at w2) R total) R further)
    grown_further =
        let s = now.shifted in
        growing_by s.first_on s.second_on s.growing further further_low
        (enters_late s.growing now.fringe further last)
        (λ plus. levelled_by_entry s.small s.growing x (weight_at g x ⊕ total) further
        (now.fringe.within x enters.0) entry_now level)

    fringe_further : IsFringe O F
        (IsEntry (exchanges_in first) (exchanges_in second) (lowered (lowered (weight_at w1) R total) R further)
        (raised (raised (weight_at w2) R total) R further) root R)
        (raised (raised (weight_at g) F total) F further)
    fringe_further = let s = now.shifted in fringe_changed s.growing further now.fringe

    -- the lists after x has entered, with the change put on it
    module _ (v1 v2 : List Weight) (long1 : length v1 ≡ length w1) (long2 : length v2 ≡ length w2)
        (rose : (z : ℕ) → weight_at v1 z ≡ cond (eqb z x) (weight_at w1 z ⊕ d) (weight_at w1 z))
        (fell : (z : ℕ) → weight_at v2 z ≡ cond (eqb z x) (weight_at w2 z ⊖ d) (weight_at w2 z)) where
      first_same : (z : ℕ) → lowered (lowered (weight_at w1) R total) R further z ≡ lowered (weight_at v1) (with_one R x) d z
      unfolding further
      first_same z = lowered_twice (weight_at w1) R total (d ⊖ total) d refl z
          ∙ lowered_entered (weight_at w1) (weight_at v1) R x d enter_outside rose z

      second_same : (z : ℕ) → raised (raised (weight_at w2) R total) R further z ≡ raised (weight_at v2) (with_one R x) d z
      unfolding further
      second_same z = raised_twice (weight_at w2) R total (d ⊖ total) d refl z
          ∙ raised_entered (weight_at w2) (weight_at v2) R x d enter_outside fell z

      gains_same : (z : ℕ) → raised (raised (weight_at g) F total) F further z ≡ raised (weight_at g) F d z
      unfolding further
      gains_same z = raised_twice (weight_at g) F total (d ⊖ total) d refl z

      kept_other : (z : ℕ) → z ≢ x → weight_at v2 z ≡ weight_at w2 z
      kept_other z other = fell z ∙ cond-false (eqb z x) _ _ (ne_eqb z x other)

      fringe_new : IsFringe O F
          (IsEntry (exchanges_in first) (exchanges_in second) (lowered (weight_at v1) (with_one R x) d)
          (raised (weight_at v2) (with_one R x) d) root R)
          (raised (weight_at g) F d)
      fringe_new =
          let same1 : lowered (lowered (weight_at w1) R total) R further ≡ lowered (weight_at v1) (with_one R x) d = fun_ext first_same in
          let same2 : raised (raised (weight_at w2) R total) R further ≡ raised (weight_at v2) (with_one R x) d = fun_ext second_same in
          let same3 : raised (raised (weight_at g) F total) F further ≡ raised (weight_at g) F d = fun_ext gains_same in
          rw (same1, same2, same3) at fringe_further

      entry_new : IsEntry (exchanges_in first) (exchanges_in second) (lowered (weight_at v1) (with_one R x) d)
          (raised (weight_at v2) (with_one R x) d)
          root R x zero_weight
      entry_new = subst
          (IsEntry (exchanges_in first) (exchanges_in second) (lowered (weight_at v1) (with_one R x) d)
          (raised (weight_at v2) (with_one R x) d) root R x)
          (raised-member (weight_at g) F d x enters.0 ∙ enters.1) (fringe_new.has x enters.0)

      shifted_new : IsShifted n I first second u1 u2 root (with_one R x) (without_one O x) d v1 v2
      shifted_new =
          let s = now.shifted in
          let same1 : lowered (lowered (weight_at w1) R total) R further ≡ lowered (weight_at v1) (with_one R x) d = fun_ext first_same in
          let same2 : raised (raised (weight_at w2) R total) R further ≡ raised (weight_at v2) (with_one R x) d = fun_ext second_same in
          let grown : IsGrowing n (exchanges_in first) (exchanges_in second) (sum_at (weight_at u1) (weight_at u2)) (weight_at u2) root R O
          (lowered (weight_at v1) (with_one R x) d) (raised (weight_at v2) (with_one R x) d) = rw (same1, same2) at grown_further in
          record {
            few = s.few;
            first_on = s.first_on;
            second_on = s.second_on;
            small = s.small;
            old_small = s.old_small;
            first_length = long1 ∙ s.first_length;
            second_length = long2 ∙ s.second_length;
            growing = growing_more s.small grown x (now.fringe.within x enters.0) entry_new;
            root_kept = kept_other root (λ e. both_ways _ enter_outside (subst (λ z. is_member z R ≡ true) e s.growing.root_in)) ∙ s.root_kept;
          }

      pub shifted_entered : {R' O' : List ℕ} → R' ≡ with_one R x → O' ≡ without_one O x
          → IsShifted n I first second u1 u2 root R' O' d v1 v2
      shifted_entered er eo = rw (er, eo) shifted_new

      top_new : IsHeaviestWeightOrNone (exchanges_in second).adds (raised (weight_at v2) (with_one R x) d) top
      top_new =
          let same2 : raised (weight_at w2) R d ≡ raised (weight_at v2) (with_one R x) d =
          fun_ext (raised_entered (weight_at w2) (weight_at v2) R x d enter_outside fell) in
          rw same2 at (top_stays n (exchanges_in second) (weight_at w2) R total now.shifted.second_on.adds_below
          top inside d now.top_now now.inside_now total_low
          (λ earlier e. no_later d earlier (enters.3 earlier (from ∙ e))))

      pub entered : ((y z z' : ℕ) → (exchanges_in first).adds z ≡ true → (exchanges_in first).adds z' ≡ true
          → (exchanges_in first).trades y z ≡ (exchanges_in first).trades y z')
          → {R' O' F' F'' : List ℕ} {h : List Weight} {inside' : Option Weight} → R' ≡ with_one R x → O' ≡ without_one O x
          → F' ≡ without_one F x → length h ≡ length g
          → inside' ≡ cond ((exchanges_in second).adds x) (greater_of inside (weight_at v2 x)) inside
          → IsOffered (λ z. leads (exchanges_in first) (exchanges_in second) I x z && is_member z O')
          (entry_gain (weight_at v1) (weight_at v2) I x)
          F' (weight_at g) F'' (weight_at h)
          → IsGrowth n I first second u1 u2 root R' O' F'' d v1 v2 h top inside'
      entered alike {R'} {O'} {F'} {F''} {h} {inside'} er eo ef long ei offered = rw (er, eo, ei) (record {
        shifted = shifted_new;
        gains_length = long ∙ now.gains_length;
        fringe = fringe_entered x now.shifted.first_on now.shifted.second_on
            (λ z h k. (let s = shifted_new in s.growing.first_gains.each x root (sym (alike x z root h s.growing.root_top.adds) ∙ k)))
            (fringe_same (gains_left (weight_at g) F d x) (fringe_without x fringe_new))
            (offered_raised _ (entry_gain (weight_at v1) (weight_at v2) I x) _ (without_one F x) F'' (weight_at g) (weight_at h) d offer_more
            (rw (eo, ef) at offered));
        top_now = top_new;
        inside_now = entered_heaviest (exchanges_in second).adds R (weight_at w2) (weight_at v2) x inside enter_outside kept_other now.inside_now;
      })
        where
          offer_more : (z : ℕ) → (leads (exchanges_in first) (exchanges_in second) I x z && is_member z (without_one O x)) ≡ true
              → entry_gain (lowered (weight_at v1) (with_one R x) d) (raised (weight_at v2) (with_one R x) d) I x z
              ≡ entry_gain (weight_at v1) (weight_at v2) I x z ⊕ d
          offer_more z k =
              let s = shifted_new in
              entry_raised (weight_at v1) (weight_at v2) I (with_one R x) x z d
              (new_member x x R refl)
              (others_outside s.growing z
              (and_parts (leads (exchanges_in first) (exchanges_in second) I x z) (is_member z (without_one O x)) k).1)
