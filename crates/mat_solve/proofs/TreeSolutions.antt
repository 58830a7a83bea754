-- Arborescences and disjoint arborescences as answers: their sets are sets of arcs or of vertices, and so in range.
use Rattle.mat_solve.proofs.Common.{ℕ, ◌≤◌, List, length, refl, arith, most_elements, most_trees, ends_of, IsUnentered, AllBelow, weight, Weight, IsSet-length, IsRightArbor, IsValid, rooted, arbor, unreached, disjoint, disjoint_none, IsSolution}
use Rattle.mat_arbor.specs.declared.arbor.Arbor.TheVariants.{Tree}
use Rattle.mat_branch.specs.Arborescences.{AreDisjointArborescences, IsSeldomEntered}
use Rattle.mat_solve.proofs.PricedLadder.{ranged_part}
use Rattle.mat_solve.proofs.SetWeights.{set_in_range}

-- ---- arborescences

module _ (vertices root : ℕ) (arcs : List (ℕ × ℕ)) (costs : List Weight) (valid : IsValid (rooted vertices root arcs costs)) where
  module _ (tree : List ℕ) (first second : List Weight) (found : IsRightArbor vertices arcs costs root (Tree tree first second)) where
    -- the arcs of a least arborescence have costs, and are few
    pub arbor_few : AllBelow (length costs) tree × (length tree ≤ most_elements)
    arbor_few =
        let set = found.0.spanning.set in
        (rw valid.4 set.below, omega (arith, valid.3.0, IsSet-length (length arcs) tree set))

    -- it is one with its split and its cost
    pub arbor_solution : IsSolution (rooted vertices root arcs costs) (arbor (length arcs) (weight costs tree) tree first second)
    arbor_solution = record {
      ranged = record {
        few = valid.3.0;
        cost_in_range = set_in_range costs tree valid.5 arbor_few.1;
        arcs_in_range = found.0.spanning.set;
        first_in_range = ranged_part (length arcs) first valid.3.0 found.0.first_length found.1;
        second_in_range = ranged_part (length arcs) second valid.3.0 found.0.second_length found.2;
      };
      right = (refl, refl, found.0);
      bounded = (found.1, found.2);
    }

  -- a set of vertices that no arc enters
  pub unreached_solution : (set : List ℕ) → IsUnentered vertices arcs root set
      → IsSolution (rooted vertices root arcs costs) (unreached (length arcs) vertices set)
  unreached_solution set none = record {
    ranged = record { few = valid.3.0; vertices_in_range = record { some = valid.0; few = valid.1 }; set_in_range = none.root_free.set };
    right = (refl, refl, none);
    bounded = tt;
  }

  -- disjoint arborescences, whatever the arcs cost
  pub disjoint_solution : (k : ℕ) (trees : List (List ℕ)) → 1 ≤ k → k ≤ most_trees
      → AreDisjointArborescences vertices (length arcs) (ends_of arcs) root k trees
      → IsSolution (rooted vertices root arcs costs) (disjoint (length arcs) trees)
  disjoint_solution k trees some few are = record {
    ranged = record {
      few = valid.3.0;
      sets_in_range = record { enough = omega (arith, are.many); no_more = omega (arith, are.many); each = λ i d lt. (are.each i d lt).set };
    };
    right = (refl, record { many = refl; each = are.each; disjoint = are.disjoint });
    bounded = tt;
  }

  -- a vertex set that too few arcs enter
  pub seldom_solution : (k : ℕ) (set : List ℕ) → 1 ≤ k → k ≤ most_trees → IsSeldomEntered vertices (length arcs) (ends_of arcs) root k set
      → IsSolution (rooted vertices root arcs costs) (disjoint_none (length arcs) k vertices set)
  seldom_solution k set some few seldom = record {
    ranged = (
      record { few = valid.3.0; some_trees = some; few_trees = few; vertices_in_range = record { some = valid.0; few = valid.1 } },
      seldom.root_free.set,
    );
    right = (refl, refl, seldom);
    bounded = tt;
  }
