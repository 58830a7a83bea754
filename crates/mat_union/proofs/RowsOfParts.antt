-- Where each list has the rows of the elements of within at its part, it tells the exchanges of these elements: a search for moves, which
-- stays within, finds what it would find among all exchanges.
use Rattle.mat_union.proofs.Common.{ℕ, Bool, List, length, ap, ◌∙◌, arith, and_parts, is_member, family_union-from, Exchange, row_of-adds, row_of-trades, part_at, test_at, exchanges_of, exchanges_with, is_free, AreMovable, AreRowsAt}
use Rattle.mat_union.proofs.Agreement.{AgreeWithin}

pub rows_agree : {n : ℕ} {tests : List (List ℕ → Bool)} {parts : List (List ℕ)} {rows : List (List Exchange)} {within : List ℕ}
    → AreMovable n rows parts within → AreRowsAt tests parts within rows
    → AgreeWithin (length rows) within (exchanges_of rows) (exchanges_with tests parts) (is_free parts within)
rows_agree {n} {tests} {parts} {rows} {within} movable at = record {
  adds = λ i x l h. ap (λ (r : Exchange). r.addable) (at.each i x l h) ∙ row_of-adds (test_at tests i) (part_at parts i) x;
  trades = λ i y x l h. ap (λ (r : Exchange). is_member y r.with) (at.each i x l h) ∙ row_of-trades (test_at tests i) (part_at parts i) y x;
  starts = λ x h. (and_parts (is_member x within) _ h).0;
  stays = λ i y x l h t. movable.inside.inside y (family_union-from y parts i (let e = movable.one_each in omega arith) ((movable.trades i x l).inside y t));
}
