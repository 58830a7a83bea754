-- The union of matroids (Schrijver, chapter 42), and lists of disjoint sets, one for each matroid.
use Rattle.std.specs.Prelude.{◌≡◌, ℕ, ◌<◌, ◌+◌, Bool, true, false, ◌&&◌, ◌==◌, List, [], ◌∷◌, length, slice_index_or}
use Rattle.mat_sets.specs.Sets.{minus}
use Rattle.mat_sets.specs.Families.{AreDisjoint, family_union}
use Rattle.mat_sets.specs.Search.{some_subset}
use Rattle.mat_sets.specs.SetTests.{is_set}
use Rattle.mat_laws.specs.Matroids.{IsMatroid}
use Rattle.mat_laws.specs.Ranks.{rank}

-- the i-th test of a list; past the end no set passes
abbrev pub test_at : List (List ℕ → Bool) → ℕ → List ℕ → Bool
test_at tests i = slice_index_or tests i (λ X. false)

-- the i-th set of a list; past the end the empty set
abbrev pub part_at : List (List ℕ) → ℕ → List ℕ
part_at parts i = slice_index_or parts i []

-- each test is that of a matroid on n elements
pub record AreMatroids (n : ℕ) (tests : List (List ℕ → Bool)) : Type 0 where
  pub each : (i : ℕ) → i < length tests → IsMatroid n (test_at tests i)

-- pairwise disjoint sets, one for each test, the i-th of which passes the i-th test
pub record AreParts (tests : List (List ℕ → Bool)) (parts : List (List ℕ)) : Type 0 where
  pub one_each : length parts ≡ length tests
  pub disjoint : AreDisjoint parts
  pub passes : (i : ℕ) → i < length parts → test_at tests i (part_at parts i) ≡ true

-- X is independent in the union: there are such sets that together are X
pub record IsInUnion (tests : List (List ℕ → Bool)) (X : List ℕ) : Type 0 where
  pub parts : List (List ℕ)
  pub are : AreParts tests parts
  pub together : family_union parts ≡ X

-- whether X can be divided: some subset of X passes the first test, and what is left can be divided among the others
unfoldable pub divides : List (List ℕ → Bool) → List ℕ → Bool
divides [] X = length X == 0
divides (test ∷ tests) X = some_subset X (λ A. test A && divides tests (minus X A))

-- the test of the union on n elements: the sets that can be divided
abbrev pub union_test : ℕ → List (List ℕ → Bool) → List ℕ → Bool
union_test n tests X = is_set n X && divides tests X

-- the sum of the ranks of X in all of them
abbrev pub ranks_sum : List (List ℕ → Bool) → List ℕ → ℕ
ranks_sum [] X = 0
ranks_sum (test ∷ tests) X = rank test X + ranks_sum tests X
