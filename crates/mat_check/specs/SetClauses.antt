-- Clauses of unions, packings and coverings, in the order in which they are tried (Schrijver, chapter 42).
use Rattle.std.specs.Prelude.{ℕ, ◌+◌, ◌-◌, ◌*◌, Bool, not, ◌==◌, nat_lt, nat_le, List, [], ◌∷◌, ◌++◌, length, map}
use Rattle.std.specs.Prelude.{Option, Some, None, slice_index_or}
use Rattle.mat_sets.specs.Families.{family_union, multiplicity}
use Rattle.mat_sets.specs.Sets.{all_below, intersection, minus}
use Rattle.mat_sets.specs.Weights.{is_below, is_same, weight, weight_at, zero_weight}
use Rattle.mat_sets.specs.declared.weight.Weight.{Weight}
use Rattle.mat_laws.specs.Ranks.{rank}
use Rattle.mat_laws.specs.Searches.{has_addable}
use Rattle.mat_sets.specs.FallingWeights.{falling_weights, heavy}
use Rattle.mat_union.specs.Unions.{ranks_sum, test_at}
use Rattle.mat_cert.specs.declared.answer.LevelLine.{LevelLine}
use Rattle.mat_check.specs.Clauses.{Clause, failure_at, numbered_clauses}
use Rattle.mat_check.specs.declared.reason.Reason.TheVariants as reasons

-- each number below n stands in at most one of the sets
abbrev pub overlap_clauses : ℕ → List (List ℕ) → List Clause
overlap_clauses n sets = map (λ e. record { holds = nat_le (multiplicity e sets) 1; failure = failure_at reasons.Overlap e 0 }) (all_below n)

-- each number below n stands in some of the sets
abbrev pub missed_clauses : ℕ → List (List ℕ) → List Clause
missed_clauses n sets = map (λ e. record { holds = nat_lt 0 (multiplicity e sets); failure = failure_at reasons.Missed e 0 }) (all_below n)

-- the set with number i is independent
abbrev pub independent_clause : (List ℕ → Bool) → ℕ → List ℕ → Clause
independent_clause independent i set = record { holds = independent set; failure = failure_at reasons.Dependent i 0 }

-- no element can be added to the set with number i
abbrev pub full_clause : ℕ → (List ℕ → Bool) → ℕ → List ℕ → Clause
full_clause n independent i set = record { holds = not (has_addable n independent set); failure = failure_at reasons.Short i 0 }

-- ---- unions

-- the weight of level j is the j-th of the distinct weights
abbrev pub level_clause : List Weight → ℕ → LevelLine → Clause
level_clause w j level = record { holds = is_same level.at (slice_index_or (falling_weights w) j zero_weight); failure = failure_at reasons.Level j 0 }

-- e, which is in the cut of level j, weighs at least as much as the level
abbrev pub outside_clause : List Weight → ℕ → LevelLine → ℕ → Clause
outside_clause w j level e = record { holds = not (is_below (weight_at w e) level.at); failure = failure_at reasons.Outside j e }

-- the elements in parts that weigh at least as much as level j are as many as its cut allows
abbrev pub level_cut_clause : ℕ → List (List ℕ → Bool) → List Weight → List (List ℕ) → ℕ → LevelLine → Clause
level_cut_clause n tests w parts j level = record {
  holds = length (intersection (family_union parts) (heavy n w level.at)) == length (minus (heavy n w level.at) level.cut) + ranks_sum tests level.cut;
  failure = failure_at reasons.Cut j 0;
}

-- the clauses of level j
abbrev pub level_clauses : ℕ → List (List ℕ → Bool) → List Weight → List (List ℕ) → ℕ → LevelLine → List Clause
level_clauses n tests w parts j level =
    level_clause w j level ∷ map (outside_clause w j level) level.cut ++ level_cut_clause n tests w parts j level ∷ []

-- the parts of a union of matroids on n elements, their weight and the levels
abbrev pub union_clauses : ℕ → List (List ℕ → Bool) → List Weight → Weight → List (List ℕ) → List LevelLine → List Clause
union_clauses n tests w printed parts levels =
    overlap_clauses n parts ++ numbered_clauses (λ i part. independent_clause (test_at tests i) i part ∷ []) 0 parts
    ++ record { holds = is_same printed (weight w (family_union parts)); failure = failure_at reasons.Weight 0 0 }
    ∷ numbered_clauses (level_clauses n tests w parts) 0 levels

-- ---- packings

-- the rank of all elements is 0
abbrev pub no_rank_clause : ℕ → (List ℕ → Bool) → Clause
no_rank_clause n independent = record { holds = rank independent (all_below n) == 0; failure = failure_at reasons.Claim 0 0 }

-- fewer elements are outside A than one base more would need
abbrev pub packing_cut_clause : ℕ → (List ℕ → Bool) → ℕ → List ℕ → Clause
packing_cut_clause n independent bases A = record {
  holds = nat_lt (length (minus (all_below n) A)) ((bases + 1) * (rank independent (all_below n) - rank independent A));
  failure = failure_at reasons.Cut 0 0;
}

-- disjoint bases of a matroid on n elements, with a cut
abbrev pub pack_clauses : ℕ → (List ℕ → Bool) → List (List ℕ) → List ℕ → List Clause
pack_clauses n independent bases cut =
    overlap_clauses n bases ++ numbered_clauses (λ i base. independent_clause independent i base ∷ full_clause n independent i base ∷ []) 0 bases
    ++ packing_cut_clause n independent (length bases) cut ∷ []

-- ---- coverings

-- x alone is dependent
abbrev pub loop_clause : (List ℕ → Bool) → ℕ → Clause
loop_clause independent x = record { holds = not (independent (x ∷ [])); failure = failure_at reasons.Claim 0 0 }

-- one set fewer than there are has no room for A
abbrev pub cover_cut_clauses : (List ℕ → Bool) → ℕ → Option (List ℕ) → List Clause
cover_cut_clauses independent sets None = []
cover_cut_clauses independent sets (Some A) = record {
  holds = nat_lt ((sets - 1) * rank independent A) (length A);
  failure = failure_at reasons.Cut 0 0;
} ∷ []

-- independent sets of a matroid on n elements that hold each element, with a cut
abbrev pub cover_clauses : ℕ → (List ℕ → Bool) → List (List ℕ) → Option (List ℕ) → List Clause
cover_clauses n independent sets cut =
    numbered_clauses (λ i set. independent_clause independent i set ∷ []) 0 sets ++ missed_clauses n sets
    ++ cover_cut_clauses independent (length sets) cut
