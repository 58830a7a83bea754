-- Matchings of elements with sets that hold them, as tables that have at each index the element that the set with this index is matched
-- with (Schrijver, chapters 16 and 22).
use Rattle.std.specs.Prelude.{◌≡◌, ℕ, ◌<◌, Bool, true, false, if◌then◌else◌, List, length, Option, Some, None}
use Rattle.mat_sets.specs.Sets.{is_member}
use Rattle.mat_sets.specs.Rows.{row_at}
use Rattle.mat_flow.specs.LinkTables.{entry_at, is_before}

-- for each element the indices of the sets that hold it
pub record AreIndices (count : ℕ) (family rows : List (List ℕ)) : Type 0 where
  pub long : length rows ≡ count
  pub members : (x j : ℕ) → x < count → is_member j (row_at rows x) ≡ is_member x (row_at family j)

-- whether there is such an element, and the set with index j holds it
abbrev pub is_held : List (List ℕ) → Option ℕ → ℕ → Bool
is_held rows None j = false
is_held rows (Some x) j = is_member j (row_at rows x)

-- a matching of the members of X: each stands at one index, of a set that holds it, and nothing else stands anywhere
pub record IsMatching (rows : List (List ℕ)) (X : List ℕ) (matched : List (Option ℕ)) : Type 0 where
  pub held : (j x : ℕ) → entry_at matched j ≡ Some x → is_member j (row_at rows x) ≡ true
  pub inside : (j x : ℕ) → entry_at matched j ≡ Some x → is_member x X ≡ true
  pub covered : (x : ℕ) → is_member x X ≡ true → (j : ℕ) × (entry_at matched j ≡ Some x)
  pub once : (j k x : ℕ) → entry_at matched j ≡ Some x → entry_at matched k ≡ Some x → j ≡ k

-- what is left at an index where these elements are taken out of a matching
abbrev pub entry_without : List ℕ → Option ℕ → Option ℕ
entry_without gone None = None
entry_without gone (Some x) = if is_member x gone then None else Some x

-- an index below `sets` for each member of X, of a set that holds it, and different indices for different members
pub record AreMatchable (rows : List (List ℕ)) (sets : ℕ) (X : List ℕ) : Type 0 where
  pub index : ℕ → ℕ
  pub listed : (x : ℕ) → is_member x X ≡ true → index x < sets
  pub held : (x : ℕ) → is_member x X ≡ true → is_member (index x) (row_at rows x) ≡ true
  pub differ : (x y : ℕ) → is_member x X ≡ true → is_member y X ≡ true → index x ≡ index y → x ≡ y

-- where one element more is matched, the table is a matching with it, and else there is none
abbrev pub IsMatchedOrNone : List (List ℕ) → List ℕ → List (Option ℕ) → Bool → Type 0
IsMatchedOrNone rows X matched true = IsMatching rows X matched
IsMatchedOrNone rows X matched false = AreMatchable rows (length matched) X → ⊥

-- whether the element is the one that one of the sets with these indices is matched with
abbrev pub is_matched_among : List (Option ℕ) → List ℕ → ℕ → Bool
is_matched_among matched indices x = is_before matched indices x
