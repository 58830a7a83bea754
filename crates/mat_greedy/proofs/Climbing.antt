-- What the greedy loop keeps: the set is heaviest of its size, and so is each set so far; no element that was passed can be added,
-- so the next one is a heaviest that can. In the end no element at all can be added: the last size is the rank.
use Rattle.mat_greedy.proofs.Common.{◌≡◌, ℕ, zero, suc, ◌+◌, ◌<◌, ◌≤◌, Bool, true, false, not, ◌&&◌, if◌then◌else◌, List, [], ◌∷◌, ◌++◌, length, length-append, get_or, refl, sym, ap, ◌∙◌, subst, arith, inl, inr, cases_lt, cases_order, both_ways, and_parts, not-true, ints, is_member, with_one}
use Rattle.mat_greedy.proofs.Common.{all_below, AllBelow-member, IsRising-all_below, ◌≼◌, weight_at, Weight, pairs, IsMatroid, IsMaximal, rising, below, IsTracing, IsFallingOrder, AreHeaviestEach}
use Rattle.mat_sets.proofs.Members.{place_of_member, set_members}
use Rattle.mat_sets.proofs.Cardinalities.{length-with_one}
use Rattle.mat_laws.specs.Heaviest.{IsHeaviest}
use Rattle.mat_laws.proofs.Growing.{IsGrowing, IsGrowing-start, IsGrowing-next, IsGrowing-end, maximal_from_none}
use Rattle.mat_laws.proofs.RankLaws.{rank-maximal}
use Rattle.mat_laws.proofs.HeaviestSteps.{IsHeaviest-nil, IsHeaviest-with_one}
use Rattle.mat_laws.proofs.Maximal.{IsMaximal-base}

-- heaviest of the independent sets of k elements
abbrev pub IsHeaviestOf : (List ℕ → Bool) → (ℕ → Weight) → ℕ → List ℕ → Type 0
IsHeaviestOf p w k set = (length set ≡ k) × IsHeaviest p w set

-- after the first i elements of the order: the set, and the heaviest sets of each size up to its own
pub record IsClimbing (p : List ℕ → Bool) (w : ℕ → Weight) (order : List ℕ) (i : ℕ) (set : List ℕ) (sets : List (List ℕ)) : Type 0 where
  pub growing : IsGrowing p [] order i set
  pub heaviest : IsHeaviest p w set
  pub count : length sets ≡ suc (length set)
  pub each : (k : ℕ) → k < length sets → IsHeaviestOf p w k (get_or sets k [])

-- so too where the members of the set at the end tell which elements are added
pub record IsClimbingAndTracing (p : List ℕ → Bool) (w : ℕ → Weight) (order : List ℕ) (i : ℕ) (set : List ℕ)
    (sets : List (List ℕ)) : Type 0 where
  pub climbing : IsClimbing p w order i set sets
  pub tracing : IsTracing p order i set

get_or-pushed : (sets : List (List ℕ)) (s : List ℕ) (k : ℕ) → k < length sets → get_or (sets ++ s ∷ []) k [] ≡ get_or sets k []
get_or-pushed [] s k l = absurd (omega arith)
get_or-pushed (a ∷ sets) s zero l = refl
get_or-pushed (a ∷ sets) s (suc k) l = get_or-pushed sets s k (omega arith)

get_or-last : (sets : List (List ℕ)) (s : List ℕ) → get_or (sets ++ s ∷ []) (length sets) [] ≡ s
get_or-last [] s = refl
get_or-last (a ∷ sets) s = get_or-last sets s

module _ {n : ℕ} {p : List ℕ → Bool} (laws : IsMatroid n p) where
  pub IsClimbing-start : (w : ℕ → Weight) (order : List ℕ) → IsClimbing p w order 0 [] ([] ∷ [])
  IsClimbing-start w order = record {
    growing = IsGrowing-start p [] order laws.empty;
    heaviest = IsHeaviest-nil laws w;
    count = refl;
    each = λ k l. subst (λ j. IsHeaviestOf p w j (get_or {A = List ℕ} ([] ∷ []) j [])) (zero_is k l) (refl, IsHeaviest-nil laws w);
  }
    where
      zero_is : (k : ℕ) → k < 1 → 0 ≡ k
      zero_is k l = omega arith

  -- an element that can be added was not passed, so it weighs no more than the next
  next_is_heaviest : (weights : List Weight) (order set : List ℕ) (sets : List (List ℕ)) (i e : ℕ) → n ≡ length weights
      → IsFallingOrder weights order → i < length order
      → IsClimbing p (weight_at weights) order i set sets → is_member e set ≡ false → p (with_one set e) ≡ true
      → weight_at weights e ≼ weight_at weights (get_or order i 0)
  next_is_heaviest weights order set sets i e size falling l g out ok =
      let e_in : is_member e (with_one set e) ≡ true = grind (arith, set_members) in
      let small : e < n = AllBelow-member n (with_one set e) e (below laws (with_one set e) ok) e_in in
      let at = place_of_member e order (falling.each e (omega arith)) in
      elim (cases_order at.0 i) [
        | inl same ↦ rw (sym at.2, same) (omega (arith, ints, pairs))
        | inr (inl less) ↦ absurd (both_ways _ (ap (λ y. p (with_one set y)) (sym at.2)
            ∙ g.growing.refused at.0 less (ap (λ y. is_member y set) at.2 ∙ out)) ok)
        | inr (inr more) ↦ rw (sym at.2) (falling.falls i at.0 more at.1)
      ]

  -- one turn of the loop
  pub IsClimbing-next : (weights : List Weight) (order set : List ℕ) (sets : List (List ℕ)) (i x : ℕ) → n ≡ length weights
      → IsFallingOrder weights order → i < length order → x ≡ get_or order i 0
      → IsClimbing p (weight_at weights) order i set sets → (added : Bool) (set' : List ℕ) (sets' : List (List ℕ))
      → added ≡ (not (is_member x set) && p (with_one set x))
      → set' ≡ (if added then with_one set x else set) → sets' ≡ (if added then sets ++ set' ∷ [] else sets)
      → IsClimbing p (weight_at weights) order (i + 1) set' sets'
  IsClimbing-next weights order set sets i x size falling l at g false set' sets' e set_is sets_is =
      rw (sets_is, set_is) (record {
        growing = IsGrowing-next laws [] order set i x l at g.growing false set e refl;
        heaviest = g.heaviest;
        count = g.count;
        each = g.each;
      })
  IsClimbing-next weights order set sets i x size falling l at g true set' sets' e set_is sets_is =
      let w = weight_at weights in
      let larger = with_one set x in
      let parts = and_parts (not (is_member x set)) (p larger) (sym e) in
      let out = not-true (is_member x set) parts.0 in
      let long = length-with_one set x (rising laws set g.heaviest.passes) out in
      let best : IsHeaviest p w larger = IsHeaviest-with_one laws w set x g.heaviest out parts.1
      (λ e o ok. rw at (next_is_heaviest weights order set sets i e size falling l g o ok)) in
      let more = length-append sets (larger ∷ []) in
      rw (sets_is, set_is) (record {
        growing = IsGrowing-next laws [] order set i x l at g.growing true larger e refl;
        heaviest = best;
        count = more ∙ (let c = g.count in omega arith);
        each = λ k h. elim (cases_lt k (length sets)) [
          | inl less ↦ rw (get_or-pushed sets larger k less) (g.each k less)
          | inr past ↦
              let last : length sets ≡ k = omega arith in
              subst (λ j. IsHeaviestOf p w j (get_or (sets ++ larger ∷ []) j [])) last (rw (get_or-last sets larger) (long ∙ sym g.count, best))
        ];
      })

  pub IsClimbing-end : (weights : List Weight) (order set : List ℕ) (sets : List (List ℕ)) (i : ℕ) → n ≡ length weights
      → IsFallingOrder weights order → length order ≤ i
      → IsClimbing p (weight_at weights) order i set sets → AreHeaviestEach n p (weight_at weights) sets
  IsClimbing-end weights order set sets i size falling l g = record {
    count = g.count ∙ ap suc (sym (rank-maximal laws (all_below n) set (IsRising-all_below n) maximal));
    each = g.each;
  }
    where
      in_order : IsMaximal p order set
      in_order = maximal_from_none p [] order set refl (IsGrowing-end p [] order set i l g.growing)

      maximal : IsMaximal p (all_below n) set
      maximal = IsMaximal-base laws set (record { passes = g.heaviest.passes; full = λ x small o. in_order.full x (falling.each x (omega arith)) o })
