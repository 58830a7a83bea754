-- Parity checks of the span of a basis, as those of a linear code over the field of two elements. No public contract but that of what is kept
-- rests on them.
use Rattle.std.specs.Prelude.{◌≡◌, ℕ, false, List}
use Rattle.mat_gf2.specs.declared.elimination.TaggedColumn.{TaggedColumn}
use Rattle.mat_gf2.specs.InnerProducts.{inner_product_is_one}
use Rattle.mat_gf2.specs.TaggedColumns.{reduced_tagged_by}

-- transposes of reduction by the basis were applied to start, from the last row to the first: the inner product of the check with each column
-- is that of start with what the basis leaves of the column
pub record IsTransposed (basis : List TaggedColumn) (start check : ℕ) : Type 0 where
  pub same : (v : TaggedColumn) → inner_product_is_one check v.column ≡ inner_product_is_one start (reduced_tagged_by basis v).column

-- the inner product of the check with each column of which the basis leaves nothing is zero
pub record IsParityCheck (basis : List TaggedColumn) (check : ℕ) : Type 0 where
  pub passes : (v : TaggedColumn) → (reduced_tagged_by basis v).column ≡ 0 → inner_product_is_one check v.column ≡ false
