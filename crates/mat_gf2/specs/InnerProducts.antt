-- Inner products over the field of two elements, of columns as numbers whose bits are the entries.
use Rattle.std.specs.Prelude.{ℕ, ◌%◌, Bool, ◌==◌, bit_and, count_ones}

-- whether two numbers, as columns over the field of two elements, have the inner product one: an odd number of binary ones in common
abbrev pub inner_product_is_one : ℕ → ℕ → Bool
inner_product_is_one a b = count_ones (bit_and a b) % 2 == 1
