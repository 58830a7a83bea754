-- What a witness for a rung is read and written with, in range.
use Rattle.std.specs.Prelude.{ℕ, ◌≤◌, length}
use Rattle.mat_sets.specs.Limits.{most_elements}
use Rattle.mat_any.specs.Trees.{Tree}
use Rattle.mat_cert.specs.declared.answer.PricedRung.{PricedRung}
use Rattle.mat_problem.specs.Validity.{IsValidTree}

-- two matroids on n elements, and rung k with its halves
pub record AreRungRanges (n k : ℕ) (first second : Tree) (rung : PricedRung) : Type 0 where
  pub few : k ≤ most_elements
  pub first_matroid : IsValidTree n first
  pub second_matroid : IsValidTree n second
  pub first_half : length rung.first ≤ most_elements
  pub second_half : length rung.second ≤ most_elements
