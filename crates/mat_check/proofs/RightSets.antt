-- An answer in range on unions, packings and coverings is right exactly where none of its clauses fails.
use Rattle.mat_check.proofs.Common.{◌≡◌, ◌↔◌, ℕ, Bool, ◌&&◌, List, [], ◌∷◌, length, map, eqb, Option, None, sym, ◌∙◌, and_from, and_parts, eq-eqb, eqb-true, not-true, not_from_false, length-map, Weight, Tree, is_independent, list, IsRangedUnion, union_of, pack_any, pack, cover_never, cover}
use Rattle.mat_check.proofs.Common.{LevelLine, IsRightUnionAnswer, clauses_of, Clause, first_failure, header_clause, falling_weights, cover_clauses, pack_clauses, union_clauses}
use Rattle.mat_check.proofs.AnswerForms.{RightHasNoFailure}
use Rattle.mat_check.proofs.FallingLevels.{falling_gives}
use Rattle.mat_check.proofs.FirstFailures.{AllHold, all_hold, none_fails}
use Rattle.mat_check.proofs.RightPackings.{covering_holds, covering_is_right, packing_holds, packing_is_right}
use Rattle.mat_check.proofs.RightUnions.{union_holds, union_is_right}

-- ---- unions

module _ (w : List Weight) (matroids : List Tree) (n : ℕ) (weight : Weight) (parts : List (List ℕ)) (levels : List LevelLine) where
  abbrev tests : List (List ℕ → Bool)
  tests = map is_independent matroids

  abbrev union_answer : List Clause
  union_answer =
      header_clause (eqb n (length w) && (eqb (length parts) (length matroids) && eqb (length levels) (length (falling_weights w))))
      ∷ union_clauses n tests w weight parts levels

  union_right : (n ≡ length w) × IsRightUnionAnswer n tests w weight parts levels → first_failure union_answer ≡ None
  union_right right =
      let r = right.1.right in
      let numbers = and_from _ _ (eq-eqb (length parts) (length matroids) (r.are.one_each ∙ length-map matroids is_independent))
      (eq-eqb (length levels) (length (falling_weights w)) (falling_gives w levels r.weights).0) in
      none_fails union_answer (and_from _ _ (eq-eqb n (length w) right.0) numbers, union_holds n tests w parts weight levels right.1)

  union_clean : IsRangedUnion n weight parts levels → first_failure union_answer ≡ None
      → (n ≡ length w) × IsRightUnionAnswer n tests w weight parts levels
  union_clean ranged none =
      let h = all_hold union_answer none in
      let header = and_parts (eqb n (length w)) (eqb (length parts) (length matroids) && eqb (length levels) (length (falling_weights w))) h.0 in
      let numbers = and_parts (eqb (length parts) (length matroids)) (eqb (length levels) (length (falling_weights w))) header.1 in (
        eqb-true n (length w) header.0,
        union_is_right n tests w parts weight levels ranged
            (eqb-true (length parts) (length matroids) numbers.0 ∙ sym (length-map matroids is_independent))
            (eqb-true (length levels) (length (falling_weights w)) numbers.1) h.1,
      )

pub union_case : (w : List Weight) (matroids : List Tree) (n : ℕ) (weight : Weight) (parts : List (List ℕ)) (levels : List LevelLine)
    → RightHasNoFailure (list w matroids) (union_of n weight parts levels)
union_case w matroids n weight parts levels valid sound ranged =
    (union_right w matroids n weight parts levels, union_clean w matroids n weight parts levels ranged)

-- ---- packings

pub packing_of_none_case : (w : List Weight) (matroid : Tree) (n : ℕ) → RightHasNoFailure (list w (matroid ∷ [])) (pack_any n)
packing_of_none_case w matroid n valid sound ranged =
    let clauses = clauses_of (list w (matroid ∷ [])) (pack_any n) in (
      λ right. none_fails clauses (eq-eqb n (length w) right.0, (eq-eqb _ _ right.1, tt)),
      λ none. let h = all_hold clauses none in (eqb-true n (length w) h.0, eqb-true _ _ h.1.0),
    )

-- the header has the number of elements alone
behind_number : {P : Type 0} (n m : ℕ) (clauses : List Clause) → (P → AllHold clauses) → (AllHold clauses → P)
    → ((n ≡ m) × P) ↔ (first_failure (header_clause (eqb n m) ∷ clauses) ≡ None)
behind_number n m clauses holds is_right = (
  λ right. none_fails (header_clause (eqb n m) ∷ clauses) (eq-eqb n m right.0, holds right.1),
  λ none. let h = all_hold (header_clause (eqb n m) ∷ clauses) none in (eqb-true n m h.0, is_right h.1),
)

pub packing_case : (w : List Weight) (matroid : Tree) (n : ℕ) (bases : List (List ℕ)) (cut : List ℕ)
    → RightHasNoFailure (list w (matroid ∷ [])) (pack n bases cut)
packing_case w matroid n bases cut valid sound ranged =
    behind_number n (length w) (pack_clauses n (is_independent matroid) bases cut) (packing_holds n (is_independent matroid) bases cut)
    (packing_is_right n (is_independent matroid) bases cut ranged)

-- ---- coverings

pub loop_case : (w : List Weight) (matroid : Tree) (n loop_at : ℕ) → RightHasNoFailure (list w (matroid ∷ [])) (cover_never n loop_at)
loop_case w matroid n loop_at valid sound ranged =
    let clauses = clauses_of (list w (matroid ∷ [])) (cover_never n loop_at) in (
      λ right. none_fails clauses (eq-eqb n (length w) right.0, (not_from_false _ right.1.1, tt)),
      λ none. let h = all_hold clauses none in (eqb-true n (length w) h.0, (ranged.1, not-true _ h.1.0)),
    )

pub covering_case : (w : List Weight) (matroid : Tree) (n : ℕ) (sets : List (List ℕ)) (cut : Option (List ℕ))
    → RightHasNoFailure (list w (matroid ∷ [])) (cover n sets cut)
covering_case w matroid n sets cut valid sound ranged =
    behind_number n (length w) (cover_clauses n (is_independent matroid) sets cut) (covering_holds n (is_independent matroid) sets cut)
    (covering_is_right n (is_independent matroid) sets cut ranged)
