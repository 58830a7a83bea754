-- The row of a column is read off its reduction by the tagged basis of an independent set: the tag marks the sum that the column is, where nothing is
-- left of it.
use Rattle.mat_gf2.proofs.Common.{◌≡◌, ℕ, ◌<◌, true, false, List, length, get_or, sym, ap, ◌∙◌, and_parts, get_or_default, is_member, IsRising, is_set, IsSet-from_test, Exchange, TaggedColumn, xor_of, is_linearly_independent, is_gf2, column_of, remainder, marked, reduced_tagged_by, IsTaggedBasis}
use Rattle.std.specs.Int.Bits.{bit_xor, xor_zero_l, xor_zero_r}
use Rattle.mat_laws.specs.Exchanges.{row_of}
use Rattle.mat_gf2.proofs.Tags.{IsRising-marked, marked-IsSubset, marked-zero}
use Rattle.mat_gf2.proofs.Exchanges.{row_of_sum, row_of_left}

module _ (columns base : List ℕ) (x entry : ℕ) (basis : List TaggedColumn) (left : TaggedColumn) (row : Exchange)
    (passes : is_gf2 (length columns) (column_of columns) base ≡ true)
    (small : x < length columns) (outside : is_member x base ≡ false) (right : IsTaggedBasis (column_of columns) base base basis)
    (read : entry ≡ get_or columns x entry) (told : left ≡ reduced_tagged_by basis (record { column = entry; tag = 0 })) where
  unmarked : TaggedColumn
  unmarked = record { column = entry; tag = 0 }

  own : entry ≡ column_of columns x
  own = read ∙ get_or_default columns x entry 0 small

  rising : IsRising base
  rising = (IsSet-from_test (length columns) base (and_parts (is_set (length columns) base)
      (is_linearly_independent (column_of columns) base) passes).0).rising

  -- the members that the tag marks have the sum x
  sum : left.column ≡ 0 → xor_of (column_of columns) (marked left.tag base) ≡ column_of columns x
  unfolding unmarked
  sum nothing =
      sym (xor_zero_r (xor_of (column_of columns) (marked left.tag base)))
      ∙ ap (bit_xor (xor_of (column_of columns) (marked left.tag base))) (sym nothing)
      ∙ ap (λ u. bit_xor (xor_of (column_of columns) (marked u.tag base)) u.column) told ∙ right.tags unmarked
      ∙ ap (λ z. bit_xor z entry) (marked-zero (column_of columns) base) ∙ xor_zero_l entry ∙ own

  pub row_of_marked : left.column ≡ 0 → row.addable ≡ false → row.with ≡ marked left.tag base
      → row ≡ row_of (is_gf2 (length columns) (column_of columns)) base x
  row_of_marked nothing added exchanged =
      row_of_sum (length columns) (column_of columns) base x passes small outside row
      (record {
        part = marked left.tag base;
        rising = IsRising-marked left.tag base rising;
        inside = marked-IsSubset left.tag base;
        sum = sum nothing;
      })
      added exchanged

  pub row_of_addable : (left.column ≡ 0 → ⊥) → row.addable ≡ true → row.with ≡ base
      → row ≡ row_of (is_gf2 (length columns) (column_of columns)) base x
  unfolding unmarked
  row_of_addable some added exchanged =
      row_of_left (length columns) (column_of columns) base x passes small outside row
      (λ nothing. some (ap (λ u. u.column) told ∙ right.reduces unmarked ∙ ap (remainder (column_of columns) base) own
      ∙ nothing)) added exchanged
