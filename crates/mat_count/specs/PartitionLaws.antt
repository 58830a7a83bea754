-- Classes that share no member do not cross, so that partition matroids are laminar ones (Schrijver, chapter 39).
use Rattle.std.proofs.Common.{ℕ, ◌≢◌, List, [], get_or, arith}
use Rattle.std.proofs.lemmas.Bool.{both_ways, false_from_ne_true}
use Rattle.mat_sets.specs.Families.{AreDisjoint}
use Rattle.mat_sets.proofs.Families.{disjoint-apart}
use Rattle.mat_laws.specs.Matroids.{IsMatroid}
use Rattle.mat_count.specs.Counts.{is_counted}
use Rattle.mat_count.specs.Laminar.{IsLaminarFamily}
use Rattle.mat_count.specs.LaminarLaws.{Crosses-from_test, counted_laws}
use Rattle.mat_count.specs.Partitions.{IsPartition}

-- disjoint sets do not cross
pub IsLaminarFamily-from_disjoint : (sets : List (List ℕ)) → AreDisjoint sets → IsLaminarFamily sets
IsLaminarFamily-from_disjoint sets apart = record {
  nested = λ i j before l. false_from_ne_true _ (λ h.
      let c = Crosses-from_test (get_or sets i []) (get_or sets j []) h in
      let other : i ≢ j = omega arith in
      both_ways _ (disjoint-apart sets i j c.shared apart other c.shared_in_first) c.shared_in_second);
}

-- the laws of partition matroids
pub partition_laws : (n : ℕ) (classes : List (List ℕ)) (caps : List ℕ) → IsPartition n classes caps
    → IsMatroid n (is_counted n classes caps)
partition_laws n classes caps partition = counted_laws n classes caps (IsLaminarFamily-from_disjoint classes partition.disjoint)
