-- The laws of a list of matroids, and of their union.
use Rattle.mat_any.proofs.Common.{List, map, IsMatroid, AreMatroids, AreJoined, elements_in, size_in, test_in, union_in, IsSoundOne, tree_laws, tree_of, AnyMatroid}
use Rattle.mat_union.specs.UnionOfLaws.{joined_laws, tests_are_matroids}

pub each_lawful : (ms : List AnyMatroid) → AreJoined elements_in IsSoundOne ms → AreMatroids (size_in ms) (map test_in ms)
each_lawful ms j = tests_are_matroids elements_in IsSoundOne test_in (λ m h. tree_laws (tree_of m) h) ms j

pub union_lawful : (ms : List AnyMatroid) → AreJoined elements_in IsSoundOne ms → IsMatroid (size_in ms) (union_in ms)
union_lawful ms j = joined_laws elements_in IsSoundOne test_in (λ m h. tree_laws (tree_of m) h) ms j
