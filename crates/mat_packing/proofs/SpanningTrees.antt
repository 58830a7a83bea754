-- The test of spanning trees and its sentence say the same.
use Rattle.mat_packing.proofs.Common.{◌≡◌, ℕ, suc, true, List, length, and_from, and_parts, eq-eqb, eqb-true, is_spanning_tree, IsSpanningTree}

pub spanning_tree_from : {vertices count : ℕ} {ends : ℕ → ℕ × ℕ} {tree : List ℕ} → IsSpanningTree vertices count ends tree → is_spanning_tree vertices count ends tree ≡ true
spanning_tree_from {vertices} {count} {ends} {tree} t = and_from _ _ (eq-eqb (suc (length tree)) vertices t.size) t.forest

pub spanning_tree_gives : {vertices count : ℕ} {ends : ℕ → ℕ × ℕ} {tree : List ℕ} → is_spanning_tree vertices count ends tree ≡ true → IsSpanningTree vertices count ends tree
spanning_tree_gives {vertices} {count} {ends} {tree} h = let both = and_parts _ _ h in record { size = eqb-true (suc (length tree)) vertices both.0; forest = both.1 }
