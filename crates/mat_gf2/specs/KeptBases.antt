-- What a linear matroid keeps of an independent set.
use Rattle.std.specs.Prelude.{ℕ, List, All}
use Rattle.mat_gf2.specs.declared.kept_basis.KeptBasis.{KeptBasis}
use Rattle.mat_gf2.specs.ParityChecks.{IsParityCheck}
use Rattle.mat_gf2.specs.TaggedColumns.{IsTaggedBasis}

-- a basis of the columns of the set, each with a tag that marks the members of which it is the sum, and parity checks of the span of the basis
pub record IsKeptBasis (column : ℕ → ℕ) (base : List ℕ) (kept : KeptBasis) : Type 0 where
  pub tagged : IsTaggedBasis column base base kept.rows.items
  pub checks : All (IsParityCheck kept.rows.items) kept.checks.items
