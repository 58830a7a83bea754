-- The rows of indices after some sets of a family: each holds those of the first sets that hold its element.
use Rattle.mat_linked.proofs.Common.{◌≡◌, ℕ, ◌<◌, ◌&&◌, ltb, List, length, row_at, is_member}

-- for each element the indices of those of the first k sets that hold it
pub record AreEntered (count k : ℕ) (family rows : List (List ℕ)) : Type 0 where
  pub long : length rows ≡ count
  pub members : (x j : ℕ) → x < count → is_member j (row_at rows x) ≡ (ltb j k && is_member x (row_at family j))
