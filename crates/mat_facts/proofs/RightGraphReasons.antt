-- Right answers on graphs give reasons.
use Rattle.mat_facts.proofs.Common.{◌≡◌, ◌<◌, ◌-◌, ℕ, zero, suc, Bool, true, false, not, cond, List, [], ◌∷◌, ◌++◌, length, map, inr, refl, sym, ap, ◌∙◌, subst, arith, and_from, and_parts, both_ways, ltb-true, not-true, not_from_false, ints, get_or-map, All-append, All-cons, All-nil}
use Rattle.mat_facts.proofs.Common.{Contains-append_right, ends_of, entering, enters, IsUnentered, all_below, is_member, ◌⊕◌, ◌≼◌, is_below, negated, weight, weight_at, zero_weight, Weight, is_member-entering, no_members, below_member, is_member-all_below, at_most_same, not_below_from}
use Rattle.mat_facts.proofs.Common.{not_below_gives, pairs, weight_sum-plus, IsMatroid, is_graphic, crossing, AreTrees, IsRightPartition, is_entering_once, AreDisjointArborescences, IsSeldomEntered, Instance, graph, rooted, IsValid, Certificate, arbor, disjoint, disjoint_none, trees, trees_none}
use Rattle.mat_facts.proofs.Common.{unreached, IsRight, Fact, allowed, between, entered_by, none_gains, without_root, Holds, ShowsCheapestReach, are_costs, costs_facts, reason_of, size_facts}
use Rattle.std.specs.List.{All}
use Rattle.mat_facts.proofs.GivenBounds.{bound_by_two}
use Rattle.mat_facts.proofs.HeaviestTerms.{terms_of_heaviest}
use Rattle.mat_facts.proofs.ListedFacts.{all_one, all_two, stands_later}
use Rattle.mat_facts.proofs.NegatedCosts.{negated_weight}
use Rattle.mat_facts.proofs.RightLadderReasons.{GivesReason}
use Rattle.mat_facts.proofs.RightRungs.{size_holds, two_shares_add}
use Rattle.mat_facts.proofs.RulesOfProblems.{rules_are_matroids}

pub trees_give : (vertices : ℕ) (edges : List (ℕ × ℕ)) (n : ℕ) (sets : List (List ℕ)) → IsRight (graph vertices edges) (trees n sets)
    → GivesReason (graph vertices edges) (trees n sets)
trees_give vertices edges n sets right = λ told. (
  all_one (Holds (graph vertices edges) (trees n sets)) allowed
      (right.0, subst (λ m. AreTrees vertices m (ends_of edges) sets) right.0 right.1),
  (0, omega arith, refl),
)

pub partition_gives : (vertices : ℕ) (edges : List (ℕ × ℕ)) (n k v : ℕ) (classes : List (List ℕ))
    → IsRight (graph vertices edges) (trees_none n k v classes) → GivesReason (graph vertices edges) (trees_none n k v classes)
partition_gives vertices edges n k v classes right = λ told.
    let is : IsRightPartition vertices (length edges) (ends_of edges) k classes =
    subst (λ m. IsRightPartition vertices m (ends_of edges) k classes) right.0 right.2 in (
      all_one (Holds (graph vertices edges) (trees_none n k v classes)) (between classes (crossing (length edges) (ends_of edges) classes))
          (record { filled = is.filled; below = is.below; once = is.once }, refl),
      record {
        groups = classes;
        edges = crossing (length edges) (ends_of edges) classes;
        says_between = (0, omega arith, refl);
        few = is.few;
      },
    )

-- each cost is at least 0 where the test says so, and the other way
cost_at : (costs : List Weight) → are_costs costs ≡ true → (a : ℕ) → a < length costs → zero_weight ≼ weight_at costs a
cost_at [] e a l = absurd (omega arith)
cost_at (cost ∷ costs) e zero l = not_below_gives cost zero_weight (not-true _ (and_parts (not (is_below cost zero_weight)) (are_costs costs) e).0)
cost_at (cost ∷ costs) e (suc a) l = cost_at costs (and_parts (not (is_below cost zero_weight)) (are_costs costs) e).1 a (omega arith)

costs_from : (costs : List Weight) → ((a : ℕ) → a < length costs → zero_weight ≼ weight_at costs a) → are_costs costs ≡ true
costs_from [] h = refl
costs_from (cost ∷ costs) h =
    and_from (not (is_below cost zero_weight)) (are_costs costs) (not_from_false _ (not_below_from cost zero_weight (h 0 (omega arith))))
    (costs_from costs (λ a l. h (suc a) (omega arith)))

module _ (vertices root : ℕ) (arcs : List (ℕ × ℕ)) (costs : List Weight) (n : ℕ) where
  abbrev problem : Instance
  problem = rooted vertices root arcs costs

  abbrev into : List ℕ → List ℕ
  into set = entering (ends_of arcs) (all_below (length arcs)) set

  pub arborescences_give : (sets : List (List ℕ)) → IsRight problem (disjoint n sets) → GivesReason problem (disjoint n sets)
  arborescences_give sets right = λ told. (
    all_one (Holds problem (disjoint n sets)) allowed
        (right.0, subst (λ m. AreDisjointArborescences vertices m (ends_of arcs) root (length sets) sets) right.0 right.1),
    (0, omega arith, refl),
  )

  pub seldom_entered_gives : (k v : ℕ) (set : List ℕ) → IsRight problem (disjoint_none n k v set) → GivesReason problem (disjoint_none n k v set)
  seldom_entered_gives k v set right = λ told.
      let is : IsSeldomEntered vertices (length arcs) (ends_of arcs) root k set =
      subst (λ m. IsSeldomEntered vertices m (ends_of arcs) root k set) right.0 right.2 in (
        all_two (Holds problem (disjoint_none n k v set)) (without_root set) (entered_by set (into set)) is.root_free refl,
        record { set = set; arcs = into set; says_set = (0, omega arith, refl); says_arcs = (1, omega arith, refl); few = is.few },
      )

  no_arc : (set : List ℕ) → IsUnentered vertices arcs root set → into set ≡ []
  no_arc set is = no_members (into set) (λ a m.
      let parts = and_parts (is_member a (all_below (length arcs))) (enters (ends_of arcs) set a)
      (sym (is_member-entering (ends_of arcs) a (all_below (length arcs)) set) ∙ m) in
      both_ways _ (is.none a (ltb-true a (length arcs) (sym (is_member-all_below a (length arcs)) ∙ parts.0))) parts.1)

  pub unreached_gives : (v : ℕ) (set : List ℕ) → IsRight problem (unreached n v set) → GivesReason problem (unreached n v set)
  unreached_gives v set right = λ told.
      let none = ap length (no_arc set right.2) in (
        all_two (Holds problem (unreached n v set)) (without_root set) (entered_by set (into set)) right.2.root_free refl,
        record { set = set; arcs = into set; says_set = (0, omega arith, refl); says_arcs = (1, omega arith, refl); few = omega arith },
      )

  module _ (cost : Weight) (tree : List ℕ) (first second : List Weight) (valid : IsValid problem)
      (right : IsRight problem (arbor n cost tree first second)) where
    abbrev answer : Certificate
    answer = arbor n cost tree first second

    abbrev shares : List (List Weight)
    shares = first ∷ second ∷ []

    abbrev facts : List Fact
    facts = allowed ∷ size_facts shares tree ++ costs_facts costs

    -- where no cost is below 0, no arc weighs more than nothing
    costs_hold : (b : Bool) → are_costs costs ≡ b → All (Holds problem answer) (cond b (none_gains ∷ []) [])
    costs_hold true e = all_one (Holds problem answer) none_gains (λ a l.
        let inside : a < length costs = let long = valid.4 in omega arith in
        let cost = cost_at costs e a inside in
        let same = get_or-map negated costs a zero_weight zero_weight inside in
        omega (arith, ints, pairs))
    costs_hold false e = All-nil (Holds problem answer)

    split_at : (e : ℕ) → e < length arcs → weight_at first e ⊕ weight_at second e ≡ weight_at (map negated costs) e
    split_at e l =
        let inside : e < length costs = let long = valid.4 in omega arith in
        right.2.split e l ∙ sym (get_or-map negated costs e zero_weight zero_weight inside)

    weighs : weight first tree ⊕ weight second tree ≡ negated cost
    weighs =
        let set = right.2.spanning.set in
        sym (weight_sum-plus (weight_at (map negated costs)) (weight_at first) (weight_at second) tree (λ e m. sym (split_at e (below_member set m))))
        ∙ negated_weight arcs costs valid.4 tree set ∙ ap negated (sym right.1)

    pub least_gives : GivesReason problem (arbor n cost tree first second)
    least_gives = λ told.
        let laws = rules_are_matroids problem valid in
        let lp : IsMatroid (length arcs) (is_graphic (length arcs) (ends_of arcs)) = laws.each 0 (omega arith) in
        let lq : IsMatroid (length arcs) (is_entering_once (length arcs) vertices (ends_of arcs) root) = laws.each 1 (omega arith) in
        let is = right.2 in
        let size : length tree ≡ vertices - 1 = let s = is.spanning.size in omega arith in (
          All-cons (Holds problem answer) allowed (size_facts shares tree ++ costs_facts costs) (right.0, is.spanning, right.1)
              (All-append (Holds problem answer) (size_facts shares tree) (costs_facts costs)
              (size_holds (Holds problem answer) first second tree
              (two_shares_add (length arcs) (map negated costs) first second is.first_length is.second_length split_at)
              (omega arith, record { long = is.first_length; few = terms_of_heaviest lp (weight_at first) tree is.first_heaviest })
              (omega arith, record { long = is.second_length; few = terms_of_heaviest lq (weight_at second) tree is.second_heaviest }))
              (costs_hold (are_costs costs) refl)),
          (
            (0, omega arith, refl),
            inr (bound_by_two problem facts (vertices - 1) (negated cost) tree size refl first second
                (1, omega arith, refl) (2, omega arith, refl) (3, omega arith, refl) (at_most_same _ _ weighs)).bound,
          ),
        )

    -- where no cost is below 0, the reason says that more arcs only cost more
    pub says_none_gains : ((a : ℕ) → a < length costs → zero_weight ≼ weight_at costs a) → (told : ℕ → Bool)
        → ShowsCheapestReach problem vertices (reason_of told problem answer) cost
    says_none_gains none told = record {
      says_none_gains = stands_later none_gains allowed (size_facts shares tree ++ costs_facts costs)
          (Contains-append_right (size_facts shares tree) (costs_facts costs) none_gains (rw (costs_from costs none) (0, omega arith, refl)));
      bound = (least_gives told).1.1;
    }
