-- What a dual keeps of an independent set, and the exchanges that it tells (Schrijver, chapter 39).
use Rattle.std.specs.Prelude.{◌≡◌, ℕ, Bool, true, false, ◌&&◌, ◌==◌, if◌then◌else◌, List, [], length, slice_index_or, Option, None, Some}
use Rattle.mat_sets.specs.Sets.{is_member, minus, intersection}
use Rattle.mat_laws.specs.Columns.{AreColumns}
use Rattle.mat_laws.specs.declared.exchange.Exchange.{Exchange}
use Rattle.mat_laws.specs.Matroids.{IsBase}
use Rattle.mat_minors.specs.declared.dual.DualKept.{DualKept}

-- I itself, a base that is disjoint from it, and what can take the place of each of its members
pub record IsDualKept (n : ℕ) (independent : List ℕ → Bool) (I set base : List ℕ) (columns : List (List ℕ)) : Type 0 where
  pub marked : set ≡ I
  pub is_base : IsBase n independent base
  pub disjoint : intersection base I ≡ []
  pub columns_at : AreColumns n independent base columns

-- the row of x outside I: x can be added where it is outside the base, or something outside I can take its place; else it can be exchanged
-- for what can take its place
abbrev pub kept_row : List ℕ → List ℕ → List (List ℕ) → ℕ → Exchange
kept_row I base columns x =
    if (is_member x base && (length (minus (slice_index_or columns x []) I) == 0)) then record { addable = false; with = slice_index_or columns x [] }
    else record { addable = true; with = I }

-- what is kept of another set J at the same base, which has to be disjoint from J
abbrev pub at_same_base : DualKept → List ℕ → Option DualKept
at_same_base kept J =
    if (length (intersection kept.base J) == 0) then Some (record { set = J; base = kept.base; columns = kept.columns })
    else None
