-- No better ladder exists than a right one: the splits show that each set is heaviest, and the cut or the base that none is larger.
use Rattle.mat_check.proofs.Common.{ℕ, Bool, List, [], ◌∷◌, inl, inr, arith, slice_get_cases, Weight, IsMatroid, Tree, is_independent, pair, list, intersect, best, last_rung, PlainRung, PricedRung, IsRightLadder, AreRightRungs, IsOptimalLadder, AreOptimalRungs}
use Rattle.mat_laws.proofs.BestLadders.{rung_is_heaviest, cut_bounds}
use Rattle.mat_laws.proofs.Maximal.{base_largest}
use Rattle.mat_check.proofs.AnswerForms.{RightIsOptimal}
use Rattle.mat_check.proofs.RightLadders.{laws_as_said, laws_on_weights, laws_of_one}

pub ladder_is_optimal : {n : ℕ} {p q : List ℕ → Bool} → IsMatroid n p → IsMatroid n q
    → (w : List Weight) (rungs : List PricedRung) (cut : List ℕ) → IsRightLadder n p q w rungs cut → IsOptimalLadder p q w rungs
ladder_is_optimal lp lq w rungs cut r = record {
  heaviest = λ k rung at. rung_is_heaviest lp lq w k rung.set rung.first rung.second (r.each k rung at).right;
  none_larger = λ X in_p in_q. omega (arith, r.some, cut_bounds lp lq (last_rung rungs) cut r.ends X in_p in_q);
}

rungs_are_optimal : {n : ℕ} {p : List ℕ → Bool} → IsMatroid n p → (w : List Weight) (rungs : List PlainRung)
    → AreRightRungs n p w rungs → AreOptimalRungs p w rungs
rungs_are_optimal lp w rungs r = record {
  size = λ k rung at. (r.each k rung at).size;
  heaviest = λ k rung at. (r.each k rung at).heaviest;
  none_larger = λ X in_p. elim (slice_get_cases rungs (last_rung rungs)).1 [
    | inl found ↦
        omega (arith, r.some, base_largest lp found.0.set X (r.last found.0 found.2) in_p, (r.each (last_rung rungs) found.0 found.2).size)
    | inr past ↦ absurd (omega (arith, r.some, past.0))
  ];
}

pub right_ladder_is_optimal : (w : List Weight) (first second : Tree) (n : ℕ) (rungs : List PricedRung) (cut : List ℕ)
    → RightIsOptimal (pair w first second) (intersect n rungs cut)
right_ladder_is_optimal w first second n rungs cut valid sound right =
    let lp = laws_as_said n w (is_independent first) right.0 (laws_on_weights w first sound.0 sound.1) in
    let lq = laws_as_said n w (is_independent second) right.0 (laws_on_weights w second sound.2 sound.3) in
    ladder_is_optimal lp lq w rungs cut right.1

pub right_rungs_are_optimal : (w : List Weight) (matroid : Tree) (n : ℕ) (rungs : List PlainRung)
    → RightIsOptimal (list w (matroid ∷ [])) (best n rungs)
right_rungs_are_optimal w matroid n rungs valid sound right =
    let lp = laws_as_said n w (is_independent matroid) right.0 (laws_of_one w matroid sound) in
    rungs_are_optimal lp w rungs right.1
