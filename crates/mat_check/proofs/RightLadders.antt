-- A ladder in range is right exactly where none of its clauses fails: the rungs one by one, and then what ends them. So it is for any two
-- matroids, and for the heaviest sets of any one.
use Rattle.mat_check.proofs.Common.{◌≡◌, ℕ, Bool, true, List, [], ◌∷◌, length, Option, Some, None, slice_get, refl, sym, subst, All-head, eqb-true, eq-eqb, not-true, not_from_false, Weight, IsMatroid, IsBase, IsBase-not_addable, not_addable-IsBase, Tree, is_independent, element_count, IsSound, pair}
use Rattle.mat_check.proofs.Common.{list, IsSoundInstance, AreRangedRungs, IsRangedLadder, IsRangedPlainRung, intersect, best, last_rung, PlainRung, PricedRung, IsRightLadder, IsRightPlainRung, AreRightRungs, clauses_of, Clause, best_clauses, cut_clause, ladder_clauses, last_clause}
use Rattle.mat_check.proofs.Common.{numbered_clauses, plain_rung_clauses, priced_rung_clauses}
use Rattle.mat_any.specs.TreeLaws.{tree_laws}
use Rattle.mat_check.proofs.AnswerForms.{RightHasNoFailure}
use Rattle.mat_check.proofs.FirstFailures.{AllHold, all_hold, none_fails, AllHold-append}
use Rattle.mat_check.proofs.FirstFailures.{AllHold-front, AllHold-back, each_rung_holds, all_rungs_hold}
use Rattle.mat_check.proofs.RightRungs.{right_plain_rung, plain_rung_holds, right_priced_rung, priced_rung_holds}

-- ---- ladders

module _ {n : ℕ} {p q : List ℕ → Bool} (lp : IsMatroid n p) (lq : IsMatroid n q) (w : List Weight) (rungs : List PricedRung) (cut : List ℕ) where
  abbrev ladder_rungs : List Clause
  ladder_rungs = numbered_clauses (priced_rung_clauses n p q w) 0 rungs

  abbrev ladder_end : List Clause
  ladder_end = cut_clause n p q (last_rung rungs) cut ∷ []

  pub ladder_is_right : IsRangedLadder n rungs cut → AllHold (ladder_clauses n p q w rungs cut) → IsRightLadder n p q w rungs cut
  ladder_is_right r h =
      let front : AllHold ladder_rungs = AllHold-front ladder_rungs ladder_end h in
      let back : AllHold ladder_end = AllHold-back ladder_rungs ladder_end h in
      record {
        some = r.0.some;
        each = λ k rung at.
            right_priced_rung lp lq w k rung (r.0.each k rung at) (each_rung_holds (priced_rung_clauses n p q w) rungs front k rung at);
        ends = record { set = r.1; ranks = eqb-true _ _ back.0 };
      }

  pub ladder_holds : IsRightLadder n p q w rungs cut → AllHold (ladder_clauses n p q w rungs cut)
  ladder_holds r =
      let front : AllHold ladder_rungs =
      all_rungs_hold (priced_rung_clauses n p q w) rungs (λ k rung at. priced_rung_holds lp lq w k rung (r.each k rung at)) in
      let back : AllHold ladder_end = (eq-eqb _ _ r.ends.ranks, tt) in
      AllHold-append ladder_rungs ladder_end front back

-- ---- rungs of one matroid

last_holds : (n : ℕ) (p : List ℕ → Bool) (last : ℕ) (found : Option PlainRung)
    → ((rung : PlainRung) → found ≡ Some rung → IsBase n p rung.set) → AllHold (last_clause n p last found)
last_holds n p last None h = tt
last_holds n p last (Some rung) h = (not_from_false _ (IsBase-not_addable n p rung.set (h rung refl)), tt)

last_is_base : (n : ℕ) (p : List ℕ → Bool) (last : ℕ) (rung : PlainRung) → p rung.set ≡ true
    → AllHold (last_clause n p last (Some rung)) → IsBase n p rung.set
last_is_base n p last rung passes h = not_addable-IsBase n p rung.set passes (not-true _ h.0)

module _ {n : ℕ} {p : List ℕ → Bool} (lp : IsMatroid n p) (w : List Weight) (rungs : List PlainRung) where
  abbrev single_rungs : List Clause
  single_rungs = numbered_clauses (plain_rung_clauses n p w) 0 rungs

  abbrev single_end : List Clause
  single_end = last_clause n p (last_rung rungs) (slice_get rungs (last_rung rungs))

  pub rungs_are_right : AreRangedRungs (IsRangedPlainRung n) n rungs → AllHold (best_clauses n p w rungs) → AreRightRungs n p w rungs
  rungs_are_right r h =
      let front : AllHold single_rungs = AllHold-front single_rungs single_end h in
      let back : AllHold single_end = AllHold-back single_rungs single_end h in
      let each : (k : ℕ) (rung : PlainRung) → slice_get rungs k ≡ Some rung → IsRightPlainRung p w k rung = λ k rung at.
      right_plain_rung lp w k rung (r.each k rung at) (each_rung_holds (plain_rung_clauses n p w) rungs front k rung at) in
      record {
        some = r.some;
        each = each;
        last = λ rung at. last_is_base n p (last_rung rungs) rung (each (last_rung rungs) rung at).heaviest.passes
            (subst (λ found. AllHold (last_clause n p (last_rung rungs) found)) at back);
      }

  pub rungs_hold : AreRightRungs n p w rungs → AllHold (best_clauses n p w rungs)
  rungs_hold r =
      let front : AllHold single_rungs =
      all_rungs_hold (plain_rung_clauses n p w) rungs (λ k rung at. plain_rung_holds lp w k rung (r.each k rung at)) in
      let back : AllHold single_end = last_holds n p (last_rung rungs) (slice_get rungs (last_rung rungs)) r.last in
      AllHold-append single_rungs single_end front back

-- ---- of two trees, and of one

-- a sound tree with as many elements as there are weights is a matroid on them
pub laws_on_weights : (w : List Weight) (tree : Tree) → IsSound tree → element_count tree ≡ length w
    → IsMatroid (length w) (is_independent tree)
laws_on_weights w tree sound same = subst (λ m. IsMatroid m (is_independent tree)) same (tree_laws tree sound)

-- the matroid of a list of one
pub laws_of_one : (w : List Weight) (matroid : Tree) → IsSoundInstance (list w (matroid ∷ [])) → IsMatroid (length w) (is_independent matroid)
laws_of_one w matroid sound =
    let here = All-head (λ tree. IsSound tree × (element_count tree ≡ length w)) matroid [] sound in
    laws_on_weights w matroid here.0 here.1

-- and on as many elements as an answer says
pub laws_as_said : (n : ℕ) (w : List Weight) (p : List ℕ → Bool) → n ≡ length w → IsMatroid (length w) p → IsMatroid n p
laws_as_said n w p same laws = subst (λ m. IsMatroid m p) (sym same) laws

pub right_ladder_has_no_failure : (w : List Weight) (first second : Tree) (n : ℕ) (rungs : List PricedRung) (cut : List ℕ)
    → RightHasNoFailure (pair w first second) (intersect n rungs cut)
right_ladder_has_no_failure w first second n rungs cut valid sound ranged =
    let laws : n ≡ length w → IsMatroid n (is_independent first) × IsMatroid n (is_independent second) = λ same. (
      laws_as_said n w (is_independent first) same (laws_on_weights w first sound.0 sound.1),
      laws_as_said n w (is_independent second) same (laws_on_weights w second sound.2 sound.3),
    ) in
    let clauses = clauses_of (pair w first second) (intersect n rungs cut) in (
      λ right.
          let l = laws right.0 in
          none_fails clauses (eq-eqb n (length w) right.0, ladder_holds l.0 l.1 w rungs cut right.1),
      λ none.
          let h = all_hold clauses none in
          let same = eqb-true n (length w) h.0 in
          let l = laws same in
          (same, ladder_is_right l.0 l.1 w rungs cut ranged h.1),
    )

pub right_rungs_have_no_failure : (w : List Weight) (matroid : Tree) (n : ℕ) (rungs : List PlainRung)
    → RightHasNoFailure (list w (matroid ∷ [])) (best n rungs)
right_rungs_have_no_failure w matroid n rungs valid sound ranged =
    let laws : n ≡ length w → IsMatroid n (is_independent matroid) =
    λ same. laws_as_said n w (is_independent matroid) same (laws_of_one w matroid sound) in
    let clauses = clauses_of (list w (matroid ∷ [])) (best n rungs) in (
      λ right. none_fails clauses (eq-eqb n (length w) right.0, rungs_hold (laws right.0) w rungs right.1),
      λ none.
          let h = all_hold clauses none in
          let same = eqb-true n (length w) h.0 in
          (same, rungs_are_right (laws same) w rungs ranged h.1),
    )
