-- What each fact says, over the problem and the answer alone.
use Rattle.std.specs.Prelude.{◌≡◌, ℕ, ◌<◌, true, List, length, slice_index}
use Rattle.mat_sets.specs.FallingWeights.{heavy}
use Rattle.mat_sets.specs.Families.{family_union, multiplicity}
use Rattle.mat_sets.specs.Graphs.{ends_of, entering, IsRootFree}
use Rattle.mat_sets.specs.Sets.{all_below, intersection, is_member, IsSet}
use Rattle.mat_sets.specs.Weights.{◌≼◌, weight_at, zero_weight}
use Rattle.mat_laws.specs.Matroids.{IsBase}
use Rattle.mat_graphic.specs.Forests.{number_of_components}
use Rattle.mat_packing.specs.Trees.{crossing}
use Rattle.mat_union.specs.Unions.{part_at}
use Rattle.mat_fronts.specs.Rainbow.{edges_without}
use Rattle.mat_problem.specs.Instances.{Instance, list, graph, rooted, coloured}
use Rattle.mat_cert.specs.Certificates.{Certificate, union_of}
use Rattle.mat_facts.specs.Facts.{Fact, allowed, at_most, shared, few_above, full, in_parts, between, falls_apart, without_root, entered_by, none_gains}
use Rattle.mat_facts.specs.Answers.{IsAllowed}
use Rattle.mat_facts.specs.Problems.{rule_at, rule_count, size_of, weights_of}
use Rattle.mat_facts.specs.Allowances.{AddUp, AllowsAtMost, HasFewAbove}

-- groups of so many vertices, each by a list of its members: none is empty, and each vertex is in exactly one
pub record AreGroups (vertices : ℕ) (groups : List (List ℕ)) : Type 0 where
  pub filled : (q : ℕ) → q < length groups → 0 < length (part_at groups q)
  pub below : (q x : ℕ) → q < length groups → is_member x (part_at groups q) ≡ true → x < vertices
  pub once : (x : ℕ) → x < vertices → multiplicity x groups ≡ 1

-- the fact holds of the problem and the answer; of a problem that lacks what the fact speaks of it does not
abbrev pub Holds : Instance → Certificate → Fact → Type 0
Holds problem answer allowed = IsAllowed problem answer
Holds problem answer (at_most i S c) = (i < rule_count problem) × AllowsAtMost (size_of problem) (rule_at problem i) S c
Holds problem answer (shared shares) = AddUp (size_of problem) (rule_count problem) (weights_of problem) shares
Holds problem answer (few_above i shares terms) = (i < rule_count problem) × HasFewAbove (size_of problem) (rule_at problem i) shares terms
Holds problem answer (full X) = (rule_count problem ≡ 1) × IsBase (size_of problem) (rule_at problem 0) X
Holds problem answer none_gains = (e : ℕ) → e < size_of problem → weight_at (weights_of problem) e ≼ zero_weight
Holds (list w matroids) (union_of n printed parts levels) (in_parts t m) = length (intersection (family_union parts) (heavy (length w) w t)) ≡ m
Holds (graph vertices edges) answer (between groups found) =
    AreGroups vertices groups × (crossing (length edges) (ends_of edges) groups ≡ found)
Holds (rooted vertices root arcs costs) answer (without_root set) = IsRootFree vertices root set
Holds (rooted vertices root arcs costs) answer (entered_by set found) = entering (ends_of arcs) (all_below (length arcs)) set ≡ found
Holds (coloured vertices colours edges colour_of w) answer (falls_apart C count) =
    IsSet colours C × (number_of_components vertices (ends_of edges) (edges_without (length edges) (slice_index colour_of) C) ≡ count)
Holds problem answer fact = ⊥
