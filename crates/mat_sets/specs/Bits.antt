-- Sets of numbers as the bits of words of 64 bits.
use Rattle.std.specs.Prelude.{◌≡◌, ℕ, ◌+◌, ◌*◌, ◌/◌, ◌%◌, ◌<◌, Bool, ◌&&◌, ◌==◌, nat_lt, List, length, slice_index_or}
use Rattle.std.specs.Int.{bit_at}
use Rattle.mat_sets.specs.Search.{those_below}
use Rattle.mat_sets.specs.Sets.{is_member, IsRising}

-- whether bit i % 64 of word i / 64 is set: past the last word none is
unfoldable pub has_bit : List ℕ → ℕ → Bool
has_bit words i = bit_at (slice_index_or words (i / 64) 0) (i % 64) == 1

-- the set of the numbers whose bits are set
unfoldable pub bits_of : List ℕ → List ℕ
bits_of words = those_below (64 * length words) (has_bit words)

-- the bits of a word say which of the 64 numbers from `first` on are members
abbrev pub IsWordOf : List ℕ → ℕ → ℕ → Type 0
IsWordOf bits first word = (i : ℕ) → i < 64 → is_member (first + i) bits ≡ (bit_at word i == 1)

-- the members of a set below a number, in rising order
pub record AreMembersBelow (bits : List ℕ) (from : ℕ) (items : List ℕ) : Type 0 where
  pub rising : IsRising items
  pub has : (k : ℕ) → is_member k items ≡ (is_member k bits && nat_lt k from)
