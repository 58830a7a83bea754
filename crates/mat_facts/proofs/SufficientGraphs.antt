-- Facts suffice for answers on graphs: that there are no such trees or arborescences, and that an arborescence costs least.
use Rattle.mat_facts.proofs.Common.{◌≡◌, ◌<◌, ◌-◌, ℕ, true, false, List, length, get_or, ap, ◌∙◌, arith, and_from, false_from_ne_true, lt-ltb, ints, ends_of, entering, enters, IsSpanningArborescence, all_below, is_member, negated, Weight, is_member-entering, unentered_has_none}
use Rattle.mat_facts.proofs.Common.{is_member-all_below, some_from_member, pairs, is_graphic, AreTrees, is_entering_once, common_from_arborescence, AreDisjointArborescences, missing_colours_exclude, graph, rooted, coloured, IsValid, Certificate, arbor, IsLeastArborescence, coloured_is_graph}
use Rattle.mat_facts.proofs.Common.{graph_is_graph, rooted_is_graph, root_is_below, Fact, allowed, between, falls_apart, without_root, entered_by, Holds, ShowsNoArborescences, ShowsNoCheaper, ShowsNoRainbowTree, ShowsNoTrees}
use Rattle.std.specs.List.{All, Contains}
use Rattle.mat_packing.proofs.Partitions.{few_trees}
use Rattle.mat_branch.proofs.Packing.{seldom_entered_has_none}
use Rattle.mat_fronts.specs.Rainbow.{IsRainbowTree}
use Rattle.mat_facts.proofs.NegatedCosts.{negated_weight}
use Rattle.mat_facts.proofs.RulesOfProblems.{both_allow}
use Rattle.mat_facts.proofs.SufficientBounds.{said, size_is_bounded}

-- groups with few edges between them leave room for few trees
pub no_trees : (vertices : ℕ) (edges : List (ℕ × ℕ)) (answer : Certificate) (facts : List Fact) → IsValid (graph vertices edges)
    → All (Holds (graph vertices edges) answer) facts → (k : ℕ) → ShowsNoTrees facts k
    → (others : List (List ℕ)) → AreTrees vertices (length edges) (ends_of edges) others → length others < k
no_trees vertices edges answer facts valid hold k s =
    let g = graph_is_graph vertices edges valid in
    let says = said (graph vertices edges) answer facts valid hold (between s.groups s.edges) s.says_between in
    let few = s.few in
    let count = ap length says.1 in
    few_trees (ends_of edges) vertices (length edges) (λ e small. (g.first e small, g.second e small)) k s.groups
    (record { filled = says.0.filled; below = says.0.below; once = says.0.once; few = omega arith })

module _ (vertices root : ℕ) (arcs : List (ℕ × ℕ)) (costs : List Weight) (answer : Certificate) (facts : List Fact)
    (valid : IsValid (rooted vertices root arcs costs)) (hold : All (Holds (rooted vertices root arcs costs) answer) facts) where
  -- few arcs into vertices without the root leave room for few arborescences
  pub no_arborescences : (k : ℕ) → ShowsNoArborescences facts k
      → (trees : List (List ℕ)) → AreDisjointArborescences vertices (length arcs) (ends_of arcs) root k trees → ⊥
  no_arborescences k s trees are =
      let free = said (rooted vertices root arcs costs) answer facts valid hold (without_root s.set) s.says_set in
      let into = said (rooted vertices root arcs costs) answer facts valid hold (entered_by s.set s.arcs) s.says_arcs in
      let few = s.few in
      let count = ap length into in
      seldom_entered_has_none vertices (length arcs) root (ends_of arcs) k trees s.set are (record { root_free = free; few = omega arith })

  -- and no arc for none at all
  pub no_arborescence : ShowsNoArborescences facts 1 → (tree : List ℕ) → IsSpanningArborescence vertices (length arcs) (ends_of arcs) root tree → ⊥
  no_arborescence s tree spans =
      let free = said (rooted vertices root arcs costs) answer facts valid hold (without_root s.set) s.says_set in
      unentered_has_none vertices arcs root s.set tree (record { root_free = free; none = none }) spans
    where
      none : (a : ℕ) → a < length arcs → enters (ends_of arcs) s.set a ≡ false
      none a l = false_from_ne_true _ (λ e.
          let into = said (rooted vertices root arcs costs) answer facts valid hold (entered_by s.set s.arcs) s.says_arcs in
          let at : is_member a (entering (ends_of arcs) (all_below (length arcs)) s.set) ≡ true =
          is_member-entering (ends_of arcs) a (all_below (length arcs)) s.set
          ∙ and_from (is_member a (all_below (length arcs))) (enters (ends_of arcs) s.set a) (is_member-all_below a (length arcs) ∙ lt-ltb a (length arcs) l) e in
          let some = some_from_member a _ at in
          let few = s.few in
          let count = ap length into in
          absurd (omega arith))

-- an arborescence of least cost
module _ (vertices root : ℕ) (arcs : List (ℕ × ℕ)) (costs : List Weight) (n : ℕ) (cost : Weight) (tree : List ℕ) (first second : List Weight)
    (facts : List Fact) (valid : IsValid (rooted vertices root arcs costs))
    (hold : All (Holds (rooted vertices root arcs costs) (arbor n cost tree first second)) facts) where
  pub least_shown : Contains facts allowed → ShowsNoCheaper (rooted vertices root arcs costs) vertices facts cost
      → IsLeastArborescence vertices arcs costs root cost tree
  least_shown says b =
      let problem = rooted vertices root arcs costs in
      let answer = arbor n cost tree first second in
      let is = said problem answer facts valid hold allowed says in
      let g = rooted_is_graph vertices root arcs costs valid in
      let small = root_is_below vertices root arcs costs valid in
      record {
        spanning = is.1;
        priced = is.2;
        least = λ other spans.
            let common = common_from_arborescence vertices arcs root g small other spans in
            let most = size_is_bounded problem answer facts valid hold (vertices - 1) (negated cost) b other
            (both_allow (is_graphic (length arcs) (ends_of arcs)) (is_entering_once (length arcs) vertices (ends_of arcs) root) other common.0 common.1)
            (let size = spans.size in omega arith) in
            let there = negated_weight arcs costs valid.4 other spans.set in
            let here = is.2 in
            omega (arith, ints, pairs);
      }

-- colours without which there are too many groups
pub no_rainbow_tree : (vertices colours : ℕ) (edges : List (ℕ × ℕ)) (colour_of : List ℕ) (w : List Weight) (answer : Certificate) (facts : List Fact)
    → IsValid (coloured vertices colours edges colour_of w) → All (Holds (coloured vertices colours edges colour_of w) answer) facts
    → ShowsNoRainbowTree facts → (X : List ℕ) → IsRainbowTree vertices (length edges) (ends_of edges) (λ e. get_or colour_of e 0) X → ⊥
no_rainbow_tree vertices colours edges colour_of w answer facts valid hold s X tree =
    let apart = said (coloured vertices colours edges colour_of w) answer facts valid hold (falls_apart s.colours s.count) s.says_groups in
    let few = s.few in
    missing_colours_exclude vertices edges colours colour_of (coloured_is_graph vertices colours edges colour_of w valid) s.colours
    (record { set = apart.0; apart = (let count = apart.1 in omega arith) }) X tree
