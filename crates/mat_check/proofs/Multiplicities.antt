-- Counting in how many sets of a family an element stands, set by set; and the clauses that none stands in two, and none in no set.
use Rattle.mat_check.proofs.Common.{◌≡◌, ℕ, ◌+◌, ◌<◌, List, [], length, get_or, take, nat_le, nat_lt, sym, arith, indicator, multiplicity, is_member, Clause, failure_at}
use Rattle.mat_sets.proofs.Steps.{multiplicity-more, multiplicity-none}
use Rattle.mat_check.specs.declared.reason.Reason.TheVariants as reasons

-- ---- the clauses of an element

-- it stands in at most one of the sets
abbrev pub overlap_clause : List (List ℕ) → ℕ → Clause
overlap_clause sets e = record { holds = nat_le (multiplicity e sets) 1; failure = failure_at reasons.Overlap e 0 }

-- it stands in some of the sets
abbrev pub missed_clause : List (List ℕ) → ℕ → Clause
missed_clause sets e = record { holds = nat_lt 0 (multiplicity e sets); failure = failure_at reasons.Missed e 0 }

-- ---- counting set by set

-- the first i sets are counted
abbrev pub IsCounted : ℕ → List (List ℕ) → ℕ → ℕ → Type 0
IsCounted e sets i count = count ≡ multiplicity e (take i sets)

pub counted_none : (e : ℕ) (sets : List (List ℕ)) → IsCounted e sets 0 0
counted_none e sets = sym (multiplicity-none e)

module _ (e : ℕ) (sets : List (List ℕ)) (i count : ℕ) (counted : IsCounted e sets i count) where
  pub counted_next : (more : ℕ) → i < length sets → more ≡ indicator (is_member e (get_or sets i []))
      → IsCounted e sets (i + 1) (count + more)
  counted_next more inside one = omega (arith, one, counted, multiplicity-more e sets i inside)
