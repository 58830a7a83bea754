-- Where no cost is below 0, arcs along which the root reaches every vertex cost at least as much as a spanning arborescence among them.
use Rattle.mat_facts.proofs.Common.{◌≡◌, ◌<◌, ◌≤◌, ◌+◌, ◌-◌, ℕ, Bool, true, false, ◌&&◌, cond, List, [], ◌∷◌, length, map, refl, ◌∙◌, subst, arith, and_from, or_right, ints, get_or-map, indicator, ends_of, entering, enters, IsGraph, IsSpanningArborescence, Reaches, is_member, IsSet, IsSubset, ◌≼◌}
use Rattle.mat_facts.proofs.Common.{negated, weight, weight_at, weight_sum, zero_weight, Weight, is_member-entering, walk_enters, IsRising-filter, below_member, is_member-filter, is_member-head, member_from_some, same_members, some_from_member, pairs, is_graphic, is_entering_once}
use Rattle.mat_facts.proofs.Common.{common_from_arborescence, rooted, IsValid, Certificate, rooted_is_graph, root_is_below, Fact, none_gains, Holds, ShowsCheapestReach}
use Rattle.std.specs.List.{All, filter}
use Rattle.mat_branch.specs.Growth.{AreEntered}
use Rattle.mat_branch.proofs.GrowthSteps.{grow, Grows-start}
use Rattle.mat_facts.proofs.NegatedCosts.{negated_weight}
use Rattle.mat_facts.proofs.RulesOfProblems.{both_allow}
use Rattle.mat_facts.proofs.SufficientBounds.{said, size_is_bounded}

-- ---- an arborescence among the arcs

module _ (vertices root : ℕ) (arcs : List (ℕ × ℕ)) (g : IsGraph vertices arcs) (small : root < vertices) (Y : List ℕ) (set : IsSet (length arcs) Y)
    (reached : (v : ℕ) → v < vertices → Reaches (ends_of arcs) Y root v) where
  all_entered : AreEntered vertices root (ends_of arcs) Y 1
  all_entered = record {
    each = λ cut free.
        let v = member_from_some cut free.some in
        let r = reached v.0 (below_member free.set v.1) in
        let w = walk_enters (ends_of arcs) cut r.along root v.0 r.walk free.free v.1 in
        let at : is_member w.0 (entering (ends_of arcs) Y cut) ≡ true =
        is_member-entering (ends_of arcs) w.0 Y cut ∙ and_from (is_member w.0 Y) (enters (ends_of arcs) cut w.0) (r.inside.inside w.0 w.1) w.2 in
        let some = some_from_member w.0 (entering (ends_of arcs) Y cut) at in
        omega arith;
  }

  among : (b c : Bool) (more : ℕ) → indicator b + more ≤ indicator c → b ≡ true → c ≡ true
  among true true more h e = refl
  among true false more h e = absurd (omega arith)
  among false c more h e = absurd (cc)

  spanning_inside : (tree : List ℕ) × IsSpanningArborescence vertices (length arcs) (ends_of arcs) root tree × IsSubset tree Y
  spanning_inside =
      let start = Grows-start vertices (length arcs) root (ends_of arcs) Y 0 set small all_entered in
      let grown = grow vertices (length arcs) root (ends_of arcs) (vertices - 1) Y 0 Y (root ∷ []) [] (λ a l. g.first a l) start (omega arith) in
      (grown.tree, grown.grown.spans, record { inside = λ a m. among (is_member a grown.tree) (is_member a Y) _ (grown.grown.parts a) m })

-- ---- a part weighs no more

part_weighs : (w : ℕ → Weight) (f : ℕ → Bool) (Y : List ℕ) → ((y : ℕ) → is_member y Y ≡ true → zero_weight ≼ w y)
    → weight_sum w (filter f Y) ≼ weight_sum w Y
part_weighs w f [] h = omega (arith, ints)
part_weighs w f (y ∷ Y) h = by (f y) (h y (is_member-head y Y)) (part_weighs w f Y (λ z m. h z (or_right _ _ m)))
  where
    by : (b : Bool) → zero_weight ≼ w y → weight_sum w (filter f Y) ≼ weight_sum w Y
        → weight_sum w (cond b (y ∷ filter f Y) (filter f Y)) ≼ weight_sum w (y ∷ Y)
    by true some le = omega (arith, ints)
    by false some le = omega (arith, ints)

subset_weighs : (n : ℕ) (w : ℕ → Weight) (X Y : List ℕ) → IsSet n X → IsSet n Y → IsSubset X Y
    → ((y : ℕ) → is_member y Y ≡ true → zero_weight ≼ w y) → weight_sum w X ≼ weight_sum w Y
subset_weighs n w X Y x y inside h =
    let part : filter (λ k. is_member k X) Y ≡ X = same_members _ _ (IsRising-filter (λ k. is_member k X) Y y.rising) x.rising
    (λ k. is_member-filter (λ k. is_member k X) k Y ∙ both (is_member k Y) (is_member k X) (inside.inside k)) in
    subst (λ Z. weight_sum w Z ≼ weight_sum w Y) part (part_weighs w (λ k. is_member k X) Y h)
  where
    both : (b c : Bool) → (c ≡ true → b ≡ true) → (b && c) ≡ c
    both true c h = refl
    both false true h = absurd (let e = h refl in cc)
    both false false h = refl

-- ---- the law

pub reaching_costs : (vertices root : ℕ) (arcs : List (ℕ × ℕ)) (costs : List Weight) (answer : Certificate) (facts : List Fact)
    → IsValid (rooted vertices root arcs costs) → All (Holds (rooted vertices root arcs costs) answer) facts
    → (cost : Weight) → ShowsCheapestReach (rooted vertices root arcs costs) vertices facts cost
    → (Y : List ℕ) → IsSet (length arcs) Y → ((v : ℕ) → v < vertices → Reaches (ends_of arcs) Y root v) → cost ≼ weight costs Y
reaching_costs vertices root arcs costs answer facts valid hold cost s Y set reached =
    let g = rooted_is_graph vertices root arcs costs valid in
    let small = root_is_below vertices root arcs costs valid in
    let found = spanning_inside vertices root arcs g small Y set reached in
    let tree = found.0 in
    let common = common_from_arborescence vertices arcs root g small tree found.1 in
    let most = size_is_bounded (rooted vertices root arcs costs) answer facts valid hold (vertices - 1) (negated cost) s.bound tree
    (both_allow (is_graphic (length arcs) (ends_of arcs)) (is_entering_once (length arcs) vertices (ends_of arcs) root) tree common.0 common.1)
    (let size = found.1.size in omega arith) in
    let as_cost = negated_weight arcs costs valid.4 tree found.1.set in
    let none = said (rooted vertices root arcs costs) answer facts valid hold none_gains s.says_none_gains in
    let less = subset_weighs (length arcs) (weight_at costs) tree Y found.1.set set found.2
    (λ a m. not_below a (below_member set m) (none a (below_member set m))) in
    omega (arith, ints, pairs)
  where
    not_below : (a : ℕ) → a < length arcs → weight_at (map negated costs) a ≼ zero_weight → zero_weight ≼ weight_at costs a
    not_below a l h =
        let inside : a < length costs = let long = valid.4 in omega arith in
        let same = get_or-map negated costs a zero_weight zero_weight inside in
        omega (arith, ints, pairs)
