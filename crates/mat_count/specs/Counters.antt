-- Counters of members against caps.
use Rattle.std.specs.Prelude.{ℕ, Bool, false, not, ◌==◌, nat_le, Option, Some, None, List, length, filter, slice_index_or}

-- whether the set at this place is full: its number of members is at least its cap
abbrev pub is_full : List ℕ → List ℕ → ℕ → Bool
is_full caps numbers i = nat_le (slice_index_or caps i 0) (slice_index_or numbers i 0)

-- whether an entry names a class that is full: its number of members is at least its cap
abbrev pub is_named_full : List ℕ → List ℕ → Option ℕ → Bool
is_named_full caps numbers None = false
is_named_full caps numbers (Some i) = is_full caps numbers i

-- whether the set at one of these places is full
abbrev pub is_some_full : List ℕ → List ℕ → List ℕ → Bool
is_some_full caps numbers places = not (length (filter (is_full caps numbers) places) == 0)
