-- Clauses of the checker, the first that fails, and the clauses of rungs.
use Rattle.std.specs.Prelude.{ℕ, suc, ◌+◌, Bool, not, ◌==◌, if◌then◌else◌, List}
use Rattle.std.specs.Prelude.{[], ◌∷◌, ◌++◌, map, Option, Some, None, slice_get}
use Rattle.mat_sets.specs.Sets.{minus, all_below}
use Rattle.mat_sets.specs.Weights.{adds_up, is_same, weight, weight_at}
use Rattle.mat_sets.specs.declared.weight.Weight.{Weight}
use Rattle.mat_laws.specs.Ranks.{rank}
use Rattle.mat_laws.specs.Searches.{is_beaten, has_addable}
use Rattle.mat_cert.specs.Certificates.{last_rung}
use Rattle.mat_cert.specs.declared.answer.PlainRung.{PlainRung}
use Rattle.mat_cert.specs.declared.answer.PricedRung.{PricedRung}
pub use Rattle.mat_check.specs.declared.reason.Failure.{Failure}
use Rattle.mat_check.specs.declared.reason.Reason.{Reason}
use Rattle.mat_check.specs.declared.reason.Reason.TheVariants as reasons

-- what is told of a clause that fails for this reason at these two places
abbrev pub failure_at : Reason → ℕ → ℕ → Failure
failure_at reason first_place second_place = record { reason = reason; first_place = first_place; second_place = second_place }

-- a clause: whether it holds, and what is told where it fails
pub record Clause : Type 0 where
  pub holds : Bool
  pub failure : Failure

-- what is told of the first clause that fails
abbrev pub first_failure : List Clause → Option Failure
first_failure [] = None
first_failure (clause ∷ clauses) = if clause.holds then first_failure clauses else Some clause.failure

-- the clauses of each item of a list, of which the first has the number k
abbrev pub numbered_clauses : {R : Type 0} → (ℕ → R → List Clause) → ℕ → List R → List Clause
numbered_clauses clauses_of_item k [] = []
numbered_clauses clauses_of_item k (item ∷ items) = clauses_of_item k item ++ numbered_clauses clauses_of_item (suc k) items

-- the header has the problem's numbers
abbrev pub header_clause : Bool → Clause
header_clause same = record { holds = same; failure = failure_at reasons.Header 0 0 }

-- ---- the clauses of a rung

-- the printed weight is that of the set
abbrev pub weight_clause : List Weight → ℕ → Weight → List ℕ → Clause
weight_clause w k printed set = record { holds = is_same printed (weight w set); failure = failure_at reasons.Weight k 0 }

-- the set is independent in the matroid with this number
abbrev pub independence_clause : (List ℕ → Bool) → ℕ → ℕ → List ℕ → Clause
independence_clause independent number k set = record { holds = independent set; failure = failure_at reasons.Dependent k number }

-- the two parts add up to the weight of e
abbrev pub sum_clause : List Weight → ℕ → List Weight → List Weight → ℕ → Clause
sum_clause w k first second e = record {
  holds = adds_up first second w e;
  failure = failure_at reasons.Sum k e;
}

-- no independent set of as many elements is heavier in the matroid with this number
abbrev pub heaviest_clause : ℕ → (List ℕ → Bool) → List Weight → ℕ → ℕ → List ℕ → Clause
heaviest_clause n independent w number k set = record {
  holds = not (is_beaten n independent (weight_at w) set);
  failure = failure_at reasons.Beaten k number;
}

-- rung k of a ladder of two matroids on n elements
abbrev pub priced_rung_clauses : ℕ → (List ℕ → Bool) → (List ℕ → Bool) → List Weight → ℕ → PricedRung → List Clause
priced_rung_clauses n p q w k rung =
    weight_clause w k rung.weight rung.set ∷ independence_clause p 0 k rung.set ∷ independence_clause q 1 k rung.set
    ∷ map (sum_clause w k rung.first rung.second) (all_below n)
    ++ heaviest_clause n p rung.first 0 k rung.set ∷ heaviest_clause n q rung.second 1 k rung.set ∷ []

-- rung k of the heaviest independent sets of a matroid on n elements
abbrev pub plain_rung_clauses : ℕ → (List ℕ → Bool) → List Weight → ℕ → PlainRung → List Clause
plain_rung_clauses n p w k rung =
    weight_clause w k rung.weight rung.set ∷ independence_clause p 0 k rung.set ∷ heaviest_clause n p w 0 k rung.set ∷ []

-- ---- the clauses of rungs together

-- the ranks of the cut in the second matroid and of its complement in the first add up to the size of the last rung
abbrev pub cut_clause : ℕ → (List ℕ → Bool) → (List ℕ → Bool) → ℕ → List ℕ → Clause
cut_clause n p q last cut = record {
  holds = rank p (minus (all_below n) cut) + rank q cut == last;
  failure = failure_at reasons.Cut 0 0;
}

-- a ladder of two matroids on n elements
abbrev pub ladder_clauses : ℕ → (List ℕ → Bool) → (List ℕ → Bool) → List Weight → List PricedRung → List ℕ → List Clause
ladder_clauses n p q w rungs cut =
    numbered_clauses (priced_rung_clauses n p q w) 0 rungs ++ cut_clause n p q (last_rung rungs) cut ∷ []

-- no element can be added to the last set
abbrev pub last_clause : ℕ → (List ℕ → Bool) → ℕ → Option PlainRung → List Clause
last_clause n p last None = []
last_clause n p last (Some rung) = record { holds = not (has_addable n p rung.set); failure = failure_at reasons.Short last 0 } ∷ []

-- the heaviest independent sets of a matroid on n elements
abbrev pub best_clauses : ℕ → (List ℕ → Bool) → List Weight → List PlainRung → List Clause
best_clauses n p w rungs =
    numbered_clauses (plain_rung_clauses n p w) 0 rungs ++ last_clause n p (last_rung rungs) (slice_get rungs (last_rung rungs))
