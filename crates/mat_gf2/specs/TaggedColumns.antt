-- The algorithm's own notions, by which its private functions are told: columns with tags, whose bits say of which members of a set the
-- column is the sum. No public contract but that of what is kept rests on them.
use Rattle.std.specs.Prelude.{◌≡◌, ℕ, suc, ◌==◌, nat_lt, if◌then◌else◌, List, [], ◌∷◌}
use Rattle.std.specs.Int.{bit_at}
use Rattle.std.specs.Int.Bits.{bit_xor}
use Rattle.mat_gf2.specs.declared.elimination.TaggedColumn.{TaggedColumn}
use Rattle.mat_gf2.specs.Columns.{xor_of}
use Rattle.mat_gf2.specs.Eliminations.{remainder}

-- the members of X whose places, counted from i on, are bits that the tag has set
unfoldable pub marked_from : ℕ → ℕ → List ℕ → List ℕ
marked_from i tag [] = []
marked_from i tag (x ∷ X) = if bit_at tag i == 1 then x ∷ marked_from (suc i) tag X else marked_from (suc i) tag X

-- the members of X that the tag marks
abbrev pub marked : ℕ → List ℕ → List ℕ
marked tag X = marked_from 0 tag X

-- v reduced by b, and its tag with it
abbrev pub reduced_tagged : TaggedColumn → TaggedColumn → TaggedColumn
reduced_tagged v b =
    if nat_lt (bit_xor v.column b.column) v.column then record { column = bit_xor v.column b.column; tag = bit_xor v.tag b.tag } else v

-- v reduced by each of the basis in turn
abbrev pub reduced_tagged_by : List TaggedColumn → TaggedColumn → TaggedColumn
reduced_tagged_by [] v = v
reduced_tagged_by (b ∷ basis) v = reduced_tagged_by basis (reduced_tagged v b)

-- the basis reduces as elimination with the columns of Y does; and where it reduces a column, the sum of this column and of the columns of the
-- members of X that its tag marks stays the same
pub record IsTaggedBasis (column : ℕ → ℕ) (X Y : List ℕ) (basis : List TaggedColumn) : Type 0 where
  pub reduces : (v : TaggedColumn) → (reduced_tagged_by basis v).column ≡ remainder column Y v.column
  pub tags : (v : TaggedColumn) → bit_xor (xor_of column (marked (reduced_tagged_by basis v).tag X)) (reduced_tagged_by basis v).column
      ≡ bit_xor (xor_of column (marked v.tag X)) v.column
