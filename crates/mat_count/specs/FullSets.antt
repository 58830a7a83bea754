-- The listed sets that an independent set fills: what is kept of each, and the row that the smallest full one tells (Schrijver, chapter 39).
use Rattle.std.specs.Prelude.{◌≡◌, ℕ, ◌<◌, Bool, true, false, if◌then◌else◌, nat_le, nat_lt, Option, Some, None, List, [], length, slice_index_or}
use Rattle.mat_sets.specs.Sets.{is_member, intersection}
use Rattle.mat_laws.specs.declared.exchange.Exchange.{Exchange}
use Rattle.mat_count.specs.declared.full_sets.FullSets.{FullSets}

-- the number of members, where they are at least as many as the cap
abbrev pub where_full : ℕ → ℕ → Option ℕ
where_full cap number = if nat_le cap number then Some number else None

-- the base, and for each listed set the number of its members in the base where they are as many as its cap, and none where it has room
pub record AreFullSets (sets : List (List ℕ)) (caps base : List ℕ) (kept : FullSets) : Type 0 where
  pub marked : kept.base ≡ base
  pub long : length kept.sizes.items ≡ length sets
  pub at : (i : ℕ) → i < length sets
      → slice_index_or kept.sizes.items i None ≡ where_full (slice_index_or caps i 0) (length (intersection base (slice_index_or sets i [])))

-- what is kept at a place, if there is a place
abbrev pub kept_at : List (Option ℕ) → Option ℕ → Option ℕ
kept_at sizes None = None
kept_at sizes (Some i) = slice_index_or sizes i None

-- whether the first is full, and the second is not or has more members
abbrev pub has_fewer : Option ℕ → Option ℕ → Bool
has_fewer None other = false
has_fewer (Some size) None = true
has_fewer (Some size) (Some other) = nat_lt size other

-- what was found, if anything, is one of these places, and none of them has a full set of fewer members; where nothing was found, none is
-- full
pub record IsSmallest (sizes : List (Option ℕ)) (places : List ℕ) (found : Option ℕ) : Type 0 where
  pub listed : (i : ℕ) → found ≡ Some i → is_member i places ≡ true
  pub least : (i : ℕ) → is_member i places ≡ true → has_fewer (slice_index_or sizes i None) (kept_at sizes found) ≡ false

-- the row of an element outside the base that a listed set tells: where the set is full it can be exchanged for the members of the set alone,
-- and else it can be added, and be exchanged for every member of the base
abbrev pub row_of_size : List ℕ → List ℕ → Option ℕ → Exchange
row_of_size base set None = record { addable = true; with = base }
row_of_size base set (Some size) = record { addable = false; with = intersection base set }

-- the row of an element outside the base, by the place of the smallest full set that holds it, if there is one
abbrev pub row_at_place : List ℕ → List (List ℕ) → List (Option ℕ) → Option ℕ → Exchange
row_at_place base sets sizes None = record { addable = true; with = base }
row_at_place base sets sizes (Some i) = row_of_size base (slice_index_or sets i []) (slice_index_or sizes i None)
