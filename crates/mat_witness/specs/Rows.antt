-- What only contracts of private functions cite: a list of binary numbers that is changed until all meet a column evenly. A number meets a column
-- evenly where the two have an even number of binary ones in common, and else oddly.
use Rattle.std.specs.Prelude.{◌≡◌, ◌≢◌, ℕ, ◌<◌, true, false, if◌then◌else◌, List, length, map, slice_index_or, remove}
use Rattle.std.specs.Int.{bit_at}
use Rattle.std.specs.Int.Bits.{bit_xor}
use Rattle.mat_gf2.specs.InnerProducts.{inner_product_is_one}

-- the number, with the row added where it meets the column oddly
abbrev pub evened : ℕ → ℕ → ℕ → ℕ
evened row column number = if inner_product_is_one number column then bit_xor number row else number

-- the row is the first that meets the column oddly, is taken out of the rows, and is added to the others that do so
pub record IsTaken (before : List ℕ) (column row : ℕ) (after : List ℕ) : Type 0 where
  pub at : ℕ
  pub within : at < length before
  pub is : slice_index_or before at 0 ≡ row
  pub odd : inner_product_is_one row column ≡ true
  pub none_before : (i : ℕ) → i < at → inner_product_is_one (slice_index_or before i 0) column ≡ false
  pub left : after ≡ map (evened row column) (remove before at)

-- the ones of the first k numbers but for the one at this place
pub record AreOnesOfOthers (numbers : List ℕ) (place k ones : ℕ) : Type 0 where
  pub all : (p : ℕ) → bit_at ones p ≡ 0 → (j : ℕ) → j < k → j ≢ place → bit_at (slice_index_or numbers j 0) p ≡ 0
  pub only : (p : ℕ) → ((j : ℕ) → j < k → j ≢ place → bit_at (slice_index_or numbers j 0) p ≡ 0) → bit_at ones p ≡ 0
