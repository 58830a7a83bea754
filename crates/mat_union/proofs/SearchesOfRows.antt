-- What a search for moves among right rows shows: moves that keep the parts independent, a cut, or the exchanges of an element.
use Rattle.mat_union.proofs.Common.{◌≡◌, ℕ, ◌+◌, Bool, false, not, List, length, refl, sym, subst, ◌∙◌, and_parts, eq-eqb, not-true, or_left, is_member, minus, with_one, family_union, below_member, is_member-with_one, Exchange, row_of, AreMatroids, AreParts, ranks_sum, union_test, AreMovable}
use Rattle.mat_union.proofs.Common.{AreRowsAt, exchanges_of, exchanges_with, is_free, row_found, AreMoved, IsMoves, IsShortestMovePath, IsStuck, moves_keep, stuck_cut, Move, Moves}
use Rattle.mat_union.proofs.Agreement.{same_ends, same_shortest, same_stuck}
use Rattle.mat_union.proofs.RowsOfParts.{rows_agree}
use Rattle.mat_union.proofs.UnionRows.{search_row}

module _ {n : ℕ} {tests : List (List ℕ → Bool)} {parts : List (List ℕ)} (laws : AreMatroids n tests) (are : AreParts tests parts) where
  module _ {rows : List (List Exchange)} {within : List ℕ} (movable : AreMovable n rows parts within) (at : AreRowsAt tests parts within rows) where
    pub rows_path_moves : (moves : List Move) → IsShortestMovePath (length rows) (exchanges_of rows) (is_free parts within) moves
        → (new : List (List ℕ)) × AreMoved tests parts moves new
    rows_path_moves moves p = moves_keep laws are (is_free parts within) (λ x h. below_member movable.set (and_parts (is_member x within) _ h).0)
        (λ x h. not-true _ (and_parts (is_member x within) (not (is_member x (family_union parts))) h).1) moves
        (subst (λ k. IsShortestMovePath k (exchanges_with tests parts) (is_free parts within) moves) (sym movable.one_each) (same_shortest n (rows_agree movable at) moves p))

    pub rows_stuck_cut : (reach : List ℕ) → IsStuck n (length rows) (exchanges_of rows) (is_free parts within) reach
        → length (family_union parts) ≡ length (minus within reach) + ranks_sum tests reach
    rows_stuck_cut reach st = stuck_cut laws are within movable.set movable.inside reach
        (subst (λ k. IsStuck n k (exchanges_with tests parts) (is_free parts within) reach) (sym movable.one_each) (same_stuck n (rows_agree movable at) reach st))

  pub rows_search_row : {rows : List (List Exchange)} (x : ℕ) → is_member x (family_union parts) ≡ false
      → AreMovable n rows parts (with_one (family_union parts) x) → AreRowsAt tests parts (with_one (family_union parts) x) rows
      → (moves : Moves) → IsMoves n (length rows) (exchanges_of rows) (is_free parts (with_one (family_union parts) x)) moves
      → row_found (family_union parts) moves ≡ row_of (union_test n tests) (family_union parts) x
  rows_search_row x out movable at moves h =
      let larger = with_one (family_union parts) x in
      search_row tests laws parts are x (below_member movable.set (is_member-with_one x x (family_union parts) ∙ or_left _ _ (eq-eqb x x refl))) out moves
      (subst (λ k. IsMoves n k (exchanges_with tests parts) (is_free parts larger) moves) (sym movable.one_each) (same_ends n (rows_agree movable at) moves h))
