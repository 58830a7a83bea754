-- What right cuts say of their tree: its arcs are spent, and it enters each listed set once (complementary slackness).
-- Idea: the tree enters each set at least once, and its cost pays for each set once; so nothing is left for a second time or over.
use Rattle.mat_arbor.proofs.Common.{◌≡◌, ◌≢◌, ℕ, ◌<◌, true, not, eqb, List, [], ◌∷◌, length, inl, inr, refl, sym, ap, ◌∙◌, arith, ℤ, pos, ◌+ℤ◌, ◌≤ℤ◌, ◌<ℤ◌, and_from, cases_eq, ne_eqb, ints, ends_of, enters, IsSpanningArborescence, is_member, without_one, IsRising, sum_of, sum_of-le, sum_of-low}
use Rattle.mat_arbor.proofs.Common.{sum_of-plus, sum_of-without_one, arborescence_enters, below_member, is_member-without_one, cost_at, all_weight, weight_on, weight_where, IsWeightedCut, ArePriced, CutWeight}
use Rattle.std.specs.List.{AllByRecursion}
use Rattle.mat_cuts.proofs.Bounds.{all_weight-le, where-sum}

-- no two arcs of the tree enter the set
pub record IsEnteredOnce (ends : ℕ → ℕ × ℕ) (tree set : List ℕ) : Type 0 where
  pub once : (a b : ℕ) → is_member a tree ≡ true → is_member b tree ≡ true → enters ends set a ≡ true → enters ends set b ≡ true → a ≡ b

-- a set that two arcs enter is paid twice at least
paid_twice : (ends : ℕ → ℕ × ℕ) (set : List ℕ) (w : ℤ) (xs : List ℕ) (a b : ℕ) → IsRising xs → pos 0 <ℤ w → is_member a xs ≡ true
    → is_member b xs ≡ true → b ≢ a → enters ends set a ≡ true → enters ends set b ≡ true
    → (w +ℤ w) ≤ℤ sum_of (λ k. weight_where (enters ends set k) w) xs
paid_twice ends set w xs a b r some ma mb other ea eb =
    let pays = λ (k : ℕ). weight_where (enters ends set k) w in
    let here : pays a ≡ w = rw ea in
    let b_in : is_member b (without_one xs a) ≡ true = is_member-without_one b a xs ∙ and_from (is_member b xs) (not (eqb b a)) mb (ap not (ne_eqb b a other)) in
    let rest = where-sum ends set w (without_one xs a) b some b_in eb in
    omega (arith, ints, sum_of-without_one pays xs a r ma)

module _ (ends : ℕ → ℕ × ℕ) (vertices count root : ℕ) (tree : List ℕ) (s : IsSpanningArborescence vertices count ends root tree) where
  -- where the tree pays no more than all weights, it enters each set once
  each_once : (cuts : List CutWeight) → AllByRecursion (IsWeightedCut vertices root) cuts → sum_of (weight_on ends cuts) tree ≤ℤ all_weight cuts
      → AllByRecursion (λ c. IsEnteredOnce ends tree c.set) cuts
  each_once [] each most = tt
  each_once (c ∷ cuts) each most =
      let pays = λ (k : ℕ). weight_where (enters ends c.set k) c.weight in
      let some = each.0.positive in
      let split = sum_of-plus (weight_on ends (c ∷ cuts)) pays (weight_on ends cuts) tree (λ k m. refl) in
      let first = arborescence_enters ends vertices count root tree c.set s each.0.root_free in
      let once = where-sum ends c.set c.weight tree first.0 some first.1 first.2 in
      let rest = all_weight-le ends vertices count root tree cuts s each.1 in
      let only : IsEnteredOnce ends tree c.set = record {
        once = λ a b ma mb ea eb. elim (cases_eq a b) [
          | inl same ↦ same
          | inr other ↦ absurd (let twice = paid_twice ends c.set c.weight tree a b s.set.rising some ma mb (λ e. other (sym e)) ea eb in omega (arith, ints))
        ];
      } in
      (only, each_once cuts each.1 (omega (arith, ints)))

-- a member of what is not below 0 is at most the sum
below_sum : (f : ℕ → ℤ) (xs : List ℕ) (a : ℕ) → IsRising xs → is_member a xs ≡ true → ((k : ℕ) → is_member k xs ≡ true → pos 0 ≤ℤ f k)
    → f a ≤ℤ sum_of f xs
below_sum f xs a r m low =
    let others = sum_of-low f 0 (without_one xs a) (λ k mk. let own = low k (part k mk) in omega (arith, ints)) in
    omega (arith, ints, sum_of-without_one f xs a r m)
  where
    part : (k : ℕ) → is_member k (without_one xs a) ≡ true → is_member k xs ≡ true
    part k mk = grind (arith, is_member-without_one k a xs)

module _ (vertices : ℕ) (arcs : List (ℕ × ℕ)) (costs : List ℤ) (root : ℕ) (tree : List ℕ) (cuts : List CutWeight) (left : List ℤ)
    (p : ArePriced vertices arcs costs root tree cuts left) where
  pub left_low : (a : ℕ) → a < length arcs → pos 0 ≤ℤ cost_at left a
  left_low a l = let e = p.left_is a l in let w = p.right.within a l in omega (arith, ints)

  paid_at_most : sum_of (weight_on (ends_of arcs) cuts) tree ≤ℤ all_weight cuts
  paid_at_most =
      let all = sum_of-le (weight_on (ends_of arcs) cuts) (cost_at costs) tree (λ a m. p.right.within a (below_member p.right.spans.set m)) in
      let total = p.right.total in
      omega (arith, ints)

  pub entered_once : AllByRecursion (λ c. IsEnteredOnce (ends_of arcs) tree c.set) cuts
  entered_once = each_once (ends_of arcs) vertices (length arcs) root tree p.right.spans cuts p.right.each paid_at_most

  pub tree_is_spent : (a : ℕ) → is_member a tree ≡ true → cost_at left a ≡ pos 0
  tree_is_spent a m =
      let inside : (k : ℕ) → is_member k tree ≡ true → k < length arcs = λ k mk. below_member p.right.spans.set mk in
      let split = sum_of-plus (cost_at costs) (cost_at left) (weight_on (ends_of arcs) cuts) tree (λ k mk. p.left_is k (inside k mk)) in
      let all = all_weight-le (ends_of arcs) vertices (length arcs) root tree cuts p.right.spans p.right.each in
      let total = p.right.total in
      let low = left_low a (inside a m) in
      let most = below_sum (cost_at left) tree a p.right.spans.set.rising m (λ k mk. left_low k (inside k mk)) in
      omega (arith, ints)
