-- What a witness shows of a rung. Its first part gives the weight of the set and the split; its second and third parts that the set is heaviest
-- of its size under both halves; and its fourth bounds each common independent set, which lies in part outside the cut and in part inside it.
use Rattle.mat_witness.proofs.Common.{◌≡◌, ℕ, ◌+◌, ◌≤◌, Bool, true, not, ◌&&◌, if◌then◌else◌, eqb, leb, ltb, List, [], ◌∷◌, ◌++◌, length, drop, Option, Some, None, slice_get, refl, sym, subst, arith, and_parts, eqb-true, leb-true, ltb-true, slice_get-get_or, all_below, IsSet, intersection, minus}
use Rattle.mat_witness.proofs.Common.{◌⊕◌, is_same, weight, weight_at, Weight, length-minus-intersection, IsSet-all_below, IsSet-minus, IsSubset-all_below, IsRising-intersection, IsRising-minus, intersection-left, intersection-right, minus-both, minus-IsSubset, same_gives, IsMatroid, tree_laws}
use Rattle.mat_witness.proofs.Common.{Tree, element_count, is_independent, IsSound, Certificate, IsRanged, IsRangedLadder, IsRangedPricedRung, last_rung, intersect, PricedRung, IsValid, IsValidTree, Instance, pair, IsSoundInstance-valid, bound_of, shows_bound, shows_free, has_rung}
use Rattle.mat_witness.proofs.Common.{is_witnessed_pair, BoundPart, IsFreeFor, WitnessParts, AreBoundsFor, IsWitness, IsWitnessFor, IsProved, IsProvedRung, IsShown, are_met, bounds_common_sets, demands_of, demands_under, shows_common_set, is_priced, rung_at}
use Rattle.std.specs.List.{AllByRecursion, list_all}
use Rattle.mat_laws.specs.Ladders.{IsRung}
use Rattle.mat_laws.proofs.BestLadders.{rung_is_heaviest}
use Rattle.mat_witness.proofs.PassingLists.{all_below_pass}
use Rattle.mat_witness.proofs.KindParts.{bound_holds, free_is_shown}
use Rattle.mat_witness.proofs.MetDemands.{bounds_meet, demands_are_fair, half_is_heaviest, IsFair, IsMet}

-- ---- the four parts

-- where no part fails all hold
pub record FourHold (first second third fourth : Bool) : Type 0 where
  pub first_holds : first ≡ true
  pub second_holds : second ≡ true
  pub third_holds : third ≡ true
  pub fourth_holds : fourth ≡ true

-- the number of the first part that fails
abbrev failing : Bool → Bool → Bool → Bool → Option ℕ
failing a b c d = if not a then Some 1 else (if not b then Some 2 else (if not c then Some 3 else (if not d then Some 4 else None)))

four_hold : (a b c d : Bool) → failing a b c d ≡ None → FourHold a b c d
four_hold true true true true e = record { first_holds = refl; second_holds = refl; third_holds = refl; fourth_holds = refl }
four_hold _ b c d e = absurd (cc)

module _ {X : Type 0} (P : X → Type 0) where
  joined : (xs ys : List X) → AllByRecursion P xs → AllByRecursion P ys → AllByRecursion P (xs ++ ys)
  joined [] ys front back = back
  joined (x ∷ xs) ys front back = (front.0, joined xs ys front.1 back)

  front_of : (xs ys : List X) → AllByRecursion P (xs ++ ys) → AllByRecursion P xs
  front_of [] ys all = tt
  front_of (x ∷ xs) ys all = (all.0, front_of xs ys all.1)

  back_of : (xs ys : List X) → AllByRecursion P (xs ++ ys) → AllByRecursion P ys
  back_of [] ys all = all
  back_of (x ∷ xs) ys all = back_of xs ys all.1

-- ---- the bound by the cut

module _ (n : ℕ) (first second : Tree) (first_sound : IsSound first) (second_sound : IsSound second)
    (first_valid : IsValidTree n first) (second_valid : IsValidTree n second)
    (lp : IsMatroid n (is_independent first)) (lq : IsMatroid n (is_independent second)) where
  cut_shows : (cut : List ℕ) → IsSet n cut → (last : ℕ) (parts : List BoundPart) → AreBoundsFor n (first ∷ second ∷ []) parts
      → bounds_common_sets first second n cut last parts ≡ true
      → (X : List ℕ) → is_independent first X ≡ true → is_independent second X ≡ true → length X ≤ last
  cut_shows cut set last [] for shown = absurd for
  cut_shows cut set last (part ∷ []) for shown = absurd for.1
  cut_shows cut set last (part ∷ other ∷ more ∷ parts) for shown = absurd for.1.1
  cut_shows cut set last (part ∷ other ∷ []) for shown = λ X in_p in_q.
      let outer = minus (all_below n) cut in
      let here = and_parts (shows_bound first part outer)
      (shows_bound second other cut && leb (bound_of first part + bound_of second other) last) shown in
      let rest = and_parts (shows_bound second other cut) (leb (bound_of first part + bound_of second other) last) here.1 in
      let most : bound_of first part + bound_of second other ≤ last = leb-true _ _ rest.1 in
      let x : IsSet n X = lp.sets X in_p in
      let outside = minus X cut in
      let inside = intersection X cut in
      let p_ok = lp.subsets outside X (IsRising-minus X cut x.rising) (minus-IsSubset X cut) in_p in
      let q_ok = lq.subsets inside X (IsRising-intersection X cut x.rising) (intersection-left X cut) in_q in
      let a = bound_holds n first part outer outside first_sound first_valid (IsSet-minus n (all_below n) cut (IsSet-all_below n)) for.0 here.0
      p_ok (minus-both X (all_below n) cut (IsSubset-all_below n X x.below)) in
      let b = bound_holds n second other cut inside second_sound second_valid set for.1.0 rest.0 q_ok (intersection-right X cut) in
      let c = length-minus-intersection X cut x.rising in
      omega arith

-- ---- of two matroids

module _ (w : List Weight) (first second : Tree) (sound : IsSound first × (element_count first ≡ length w)
    × IsSound second × (element_count second ≡ length w)) (first_valid : IsValidTree (length w) first) (second_valid : IsValidTree (length w) second)
    (rungs : List PricedRung) (cut : List ℕ) (k : ℕ) where
  abbrev at : PricedRung
  at = rung_at rungs k

  abbrev p : List ℕ → Bool
  p = is_independent first

  abbrev q : List ℕ → Bool
  q = is_independent second

  proved_by : (witness : WitnessParts) → IsRangedPricedRung (length w) k at → IsSet (length w) cut
      → IsWitness (length w) first second k at witness
      → FourHold (is_priced w (length w) at) (shows_common_set first second witness at.set) (are_met (demands_of first second k at) witness.bounds)
      (bounds_common_sets first second (length w) cut (last_rung rungs) (drop (length (demands_of first second k at)) witness.bounds))
      → IsProved w p q rungs k
  proved_by witness ranged cut_set for shown =
      let n = length w in
      let set : IsSet n at.set = ranged.0.set_in_range in
      let lp = subst (λ m. IsMatroid m p) sound.1 (tree_laws first sound.0) in
      let lq = subst (λ m. IsMatroid m q) sound.3 (tree_laws second sound.2) in
      let numbers = and_parts (is_same at.weight (weight w at.set))
      (list_all (λ e. is_same (weight_at at.first e ⊕ weight_at at.second e) (weight_at w e)) (all_below n))
      (and_parts (eqb n n) _ shown.first_holds).1 in
      let free = and_parts (shows_free first witness.first at.set) (shows_free second witness.second at.set) shown.second_holds in
      let in_p = free_is_shown n first witness.first at.set sound.0 first_valid set
      (subst (λ m. IsFreeFor n m first witness.first) (sym ranged.0.size) for.first_part) free.0 in
      let in_q = free_is_shown n second witness.second at.set sound.2 second_valid set
      (subst (λ m. IsFreeFor n m second witness.second) (sym ranged.0.size) for.second_part) free.1 in
      let firsts = demands_under first k at.set at.first in
      let seconds = demands_under second k at.set at.second in
      let fair = joined (IsFair n) firsts seconds (demands_are_fair n first at.first sound.0 first_valid ranged.1.size k at.set)
      (demands_are_fair n second at.second sound.2 second_valid ranged.2.size k at.set) in
      let met = bounds_meet n (demands_of first second k at) (first ∷ second ∷ []) witness.bounds fair for.bound_parts shown.third_holds in
      let right : IsRung n p q w k at.set at.first at.second = record {
        size = ranged.0.size;
        first_length = ranged.1.size;
        second_length = ranged.2.size;
        split = λ e small. same_gives _ _ (all_below_pass n (λ x. is_same (weight_at at.first x ⊕ weight_at at.second x) (weight_at w x))
            e numbers.1 small);
        first_heaviest = half_is_heaviest n first at.first sound.0 first_valid ranged.1.size k at.set sound.1 ranged.0.size in_p
            (front_of IsMet firsts seconds met.0);
        second_heaviest = half_is_heaviest n second at.second sound.2 second_valid ranged.2.size k at.set sound.3 ranged.0.size in_q
            (back_of IsMet firsts seconds met.0);
      } in
      record {
        priced = same_gives _ _ numbers.0;
        right = right;
        heaviest = rung_is_heaviest lp lq w k at.set at.first at.second right;
        none_larger = cut_shows n first second sound.0 sound.2 first_valid second_valid lp lq cut cut_set (last_rung rungs)
            (drop (length (demands_of first second k at)) witness.bounds) met.1 shown.fourth_holds;
      }

  pair_is_proved : (n : ℕ) (witness : WitnessParts) → IsRangedLadder n rungs cut → ltb k (length rungs) ≡ true
      → IsWitnessFor (pair w first second) (intersect n rungs cut) k witness → IsShown (pair w first second) (intersect n rungs cut) k witness
      → IsProved w p q rungs k
  pair_is_proved n witness ranged has for shown =
      let four = four_hold (is_priced w n at) (shows_common_set first second witness at.set)
      (are_met (demands_of first second k at) witness.bounds)
      (bounds_common_sets first second n cut (last_rung rungs) (drop (length (demands_of first second k at)) witness.bounds)) shown in
      let same : n ≡ length w = eqb-true n (length w) (and_parts (eqb n (length w)) _ four.first_holds).0 in
      let here : slice_get rungs k ≡ Some at = slice_get-get_or rungs k _ (ltb-true k (length rungs) has) in
      proved_by witness (subst (λ m. IsRangedPricedRung m k at) same (ranged.0.each k at here)) (subst (λ m. IsSet m cut) same ranged.1) for
      (subst (λ m. FourHold (is_priced w m at) (shows_common_set first second witness at.set) (are_met (demands_of first second k at) witness.bounds)
      (bounds_common_sets first second m cut (last_rung rungs) (drop (length (demands_of first second k at)) witness.bounds))) same four)

-- ---- the law

pub shown_is_best : (instance : Instance) (answer : Certificate) (k : ℕ) (witness : WitnessParts) → IsValid instance
    → is_witnessed_pair instance ≡ true → IsRanged answer → has_rung answer k ≡ true
    → IsWitnessFor instance answer k witness → IsShown instance answer k witness → IsProvedRung instance answer k
shown_is_best (pair w first second) (intersect n rungs cut) k witness valid kinds ranged has for shown =
    pair_is_proved w first second (IsSoundInstance-valid (pair w first second) valid) valid.1.0 valid.2.0 rungs cut k n witness ranged has for shown
shown_is_best _ answer k _ valid kinds ranged has for shown = absurd for
