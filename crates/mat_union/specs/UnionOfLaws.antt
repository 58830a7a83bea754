-- The union of sound matroids on the same elements is a matroid (Schrijver, chapter 42).
use Rattle.std.specs.Prelude.{◌≡◌, ℕ, zero, suc, ◌<◌, Bool, List, [], ◌∷◌, length, map}
use Rattle.std.proofs.Common.{All, arith, subst}
use Rattle.std.proofs.lemmas.List.Elements.{All-head, All-tail}
use Rattle.mat_laws.specs.Matroids.{IsMatroid}
use Rattle.mat_union.specs.UnionLaws.{union_laws}
use Rattle.mat_union.specs.Unions.{test_at, union_test, AreMatroids}
use Rattle.mat_union.specs.UnionsOf.{common_size, AreJoined}

tests_lawful : {M : Type 0} (size : M → ℕ) (sound : M → Type 0) (indep : M → List ℕ → Bool) (n : ℕ) → ((m : M) → sound m → IsMatroid (size m) (indep m))
    → (matroids : List M) → All (λ m. sound m × (size m ≡ n)) matroids → (i : ℕ) → i < length (map indep matroids) → IsMatroid n (test_at (map indep matroids) i)
tests_lawful size sound indep n laws [] all i l = absurd (omega arith)
tests_lawful size sound indep n laws (m ∷ matroids) all zero l = let h = All-head (λ x. sound x × (size x ≡ n)) m matroids all in subst (λ k. IsMatroid k (indep m)) h.1 (laws m h.0)
tests_lawful size sound indep n laws (m ∷ matroids) all (suc i) l = tests_lawful size sound indep n laws matroids (All-tail (λ x. sound x × (size x ≡ n)) m matroids all) i (omega arith)

-- each test is that of a matroid
pub tests_are_matroids : {M : Type 0} (size : M → ℕ) (sound : M → Type 0) (indep : M → List ℕ → Bool) → ((m : M) → sound m → IsMatroid (size m) (indep m))
    → (matroids : List M) → AreJoined size sound matroids → AreMatroids (common_size size matroids) (map indep matroids)
tests_are_matroids size sound indep laws matroids j = record { each = tests_lawful size sound indep (common_size size matroids) laws matroids j.each.each }

-- the union of sound matroids is a matroid
pub joined_laws : {M : Type 0} (size : M → ℕ) (sound : M → Type 0) (indep : M → List ℕ → Bool) → ((m : M) → sound m → IsMatroid (size m) (indep m))
    → (matroids : List M) → AreJoined size sound matroids → IsMatroid (common_size size matroids) (union_test (common_size size matroids) (map indep matroids))
joined_laws size sound indep laws matroids j = union_laws (map indep matroids) (tests_are_matroids size sound indep laws matroids j)
