-- The heaviest independent sets of a matroid as an answer: the weight of each set is in range, since it has at most as many elements as
-- there are; and as many elements as the rank has make a base.
use Rattle.mat_solve.proofs.Common.{◌≡◌, ℕ, ◌+◌, ◌-◌, ◌<◌, ◌≤◌, Bool, List, [], ◌∷◌, length, get_or, Some, refl, sym, ap, ◌∙◌, arith, map, slice_get, length-map, get_or_default, get_or_from_slice_get, slice_get_within, most_elements, all_below, weight_at, Weight, IsRising-all_below, IsMatroid}
use Rattle.mat_solve.proofs.Common.{IsBase, maximal_in, rank-maximal, Tree, is_independent, AreHeaviestEach, IsValid, list, IsSoundInstance, best, last_rung, PlainRung, laws_of_one, IsSolution, plain_rung, AreSmallSets}
use Rattle.mat_laws.proofs.Maximal.{IsBase-size, IsBase-maximal}
use Rattle.mat_solve.proofs.PricedLadder.{mapped_at, set_is}
use Rattle.mat_solve.proofs.SetWeights.{set_in_range}

-- the set of a plain rung
set_of : (w : List Weight) (sets : List (List ℕ)) (k : ℕ) (rung : PlainRung) → slice_get (map (plain_rung w) sets) k ≡ Some rung
    → (k < length sets) × (rung ≡ plain_rung w (get_or sets k []))
set_of w sets k rung at =
    let r = mapped_at (plain_rung w) sets k rung at in
    (slice_get_within sets k r.0 r.1, r.2 ∙ ap (plain_rung w) (sym (get_or_from_slice_get sets k r.0 [] r.1)))

module _ {n : ℕ} {p : List ℕ → Bool} (laws : IsMatroid n p) {h : ℕ → Weight} where
  few_in_sets : n ≤ most_elements → (sets : List (List ℕ)) → AreHeaviestEach n p h sets → AreSmallSets n sets
  few_in_sets few sets heaviest = λ k d lt.
      let at = heaviest.each k lt in
      let same : get_or sets k d ≡ get_or sets k [] = get_or_default sets k d [] lt in
      let set = set_is laws (get_or sets k []) at.1.passes in
      rw same (set.0.below, omega (arith, set.1))

  -- there are at most n + 1 of them
  few_sets : (sets : List (List ℕ)) → AreHeaviestEach n p h sets → length sets ≤ n + 1
  few_sets sets heaviest =
      let count = heaviest.count in
      let last = heaviest.each (length sets - 1) (omega (arith, count)) in
      let set = set_is laws (get_or sets (length sets - 1) []) last.1.passes in
      omega (arith, set.1, last.0, count)

  -- the last is a base
  last_is_base : (sets : List (List ℕ)) → AreHeaviestEach n p h sets → IsBase n p (get_or sets (length sets - 1) [])
  last_is_base sets heaviest =
      let count = heaviest.count in
      let last = heaviest.each (length sets - 1) (omega (arith, count)) in
      let largest = maximal_in laws (all_below n) (IsRising-all_below n) in
      let size = rank-maximal laws (all_below n) largest.0 (IsRising-all_below n) largest.1 in
      IsBase-size laws largest.0 (get_or sets (length sets - 1) []) (IsBase-maximal n p largest.0 largest.1) last.1.passes
      (omega (arith, size, last.0, count))

-- ---- the answer

module _ (w : List Weight) (matroid : Tree) (valid : IsValid (list w (matroid ∷ []))) (sound : IsSoundInstance (list w (matroid ∷ [])))
    (sets : List (List ℕ)) (heaviest : AreHeaviestEach (length w) (is_independent matroid) (weight_at w) sets) where
  laws : IsMatroid (length w) (is_independent matroid)
  laws = laws_of_one w matroid sound

  -- the sets have few elements
  pub best_few : AreSmallSets (length w) sets
  best_few = few_in_sets laws valid.0.0 sets heaviest

  length_is : length (map (plain_rung w) sets) ≡ length sets
  length_is = length-map sets (plain_rung w)

  some_rung : 0 < length (map (plain_rung w) sets)
  some_rung = omega (arith, length_is, heaviest.count)

  -- they are a solution, with their weights
  pub best_solution : IsSolution (list w (matroid ∷ [])) (best (length w) (map (plain_rung w) sets))
  best_solution = record {
    ranged = record {
      few = valid.0.0;
      some = some_rung;
      no_more = omega (arith, length_is, few_sets laws sets heaviest);
      each = λ k rung at. (let r = set_of w sets k rung at in
          let h = heaviest.each k r.0 in
          let set = set_is laws (get_or sets k []) h.1.passes in
          rw r.1 (record {
            weight_in_range = set_in_range w (get_or sets k []) valid.0.1 (omega (arith, set.1, valid.0.0));
            set_in_range = set.0;
            size = h.0;
          }));
    };
    right = (
      refl,
      record {
        some = some_rung;
        each =
            λ k rung at. (let r = set_of w sets k rung at in let h = heaviest.each k r.0 in rw r.1
            (record { priced = refl; size = h.0; heaviest = h.1 }));
        last = λ rung at. (let r = set_of w sets (last_rung (map (plain_rung w) sets)) rung at in
            let place : last_rung (map (plain_rung w) sets) ≡ length sets - 1 = omega (arith, length_is) in
            rw (r.1, place) (last_is_base laws sets heaviest));
      },
    );
    bounded = tt;
  }
