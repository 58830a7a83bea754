-- What exchanges of the tree gain: nothing at the weights of the sets that hold an arc, while the arcs stay a forest without directions;
-- nothing at costs and these weights together, while at most one arc enters each vertex.
-- Idea: within a set of k vertices that the tree enters once it has k - 1 arcs, so that none comes in but for another inside; and all sets
-- that hold the head of an arc hold the arc or are entered by it, so that only what is left of its cost tells arcs of one head apart.
use Rattle.mat_arbor.proofs.Common.{◌≡◌, ◌≢◌, ◌⊎◌, ℕ, suc, ◌<◌, ◌≤◌, Bool, true, false, not, ◌&&◌, eqb, List, [], ◌∷◌, length, inl, inr, refl, sym, ap, ◌∙◌, subst, arith, ℤ, pos, ◌+ℤ◌, ◌≤ℤ◌, ◌<ℤ◌, and_from, and_parts, both_ways, cases_Bool, cases_eq, eq-eqb, eqb-false, eqb-true, false_from_ne_true}
use Rattle.mat_arbor.proofs.Common.{ne_eqb, not-true, or_cases, or_left, or_right, ints, ends_of, enters, IsRootFree, IsSpanningArborescence, is_member, with_one, without_one, IsRising, IsSubset, length-with_one, length-without_one, arborescence_enters, IsRising-filter, below_member}
use Rattle.mat_arbor.proofs.Common.{is_member-filter, is_member-with_one, is_member-without_one, IsRising-with_one, IsRising-without_one, length-covered, cost_at, weight_on, weight_where, IsWeightedCut, ArePriced, CutWeight, IsForest, IsForest-subset, AreEndsBelow, length-forest_inside, head_of}
use Rattle.mat_arbor.proofs.Common.{EntersOnce, held_weight, holds, weight_around}
use Rattle.std.specs.List.{AllByRecursion, filter}
use Rattle.mat_arbor.proofs.CommonSets.{entered}
use Rattle.mat_arbor.proofs.Slackness.{left_low, tree_is_spent, IsEnteredOnce}

-- ---- members after an exchange

exchanged-in : (X : List ℕ) (x y k : ℕ) → is_member k X ≡ true → k ≢ y → is_member k (with_one (without_one X y) x) ≡ true
exchanged-in X x y k m other =
    is_member-with_one k x (without_one X y)
    ∙ or_right (eqb k x) _ (is_member-without_one k y X ∙ and_from (is_member k X) (not (eqb k y)) m (ap not (ne_eqb k y other)))

pub exchanged-new : (X : List ℕ) (x y : ℕ) → is_member x (with_one (without_one X y) x) ≡ true
exchanged-new X x y = is_member-with_one x x (without_one X y) ∙ or_left (eqb x x) _ (eq-eqb x x refl)

-- ---- the arcs inside a set

module _ (n vertices : ℕ) (ends : ℕ → ℕ × ℕ) (root : ℕ) (small : root < vertices) (tree : List ℕ) (below : AreEndsBelow ends vertices tree)
    (t : IsSpanningArborescence vertices n ends root tree) where
  -- the tree has all but one as many as the set has vertices
  inside_size : (set : List ℕ) → IsRootFree vertices root set → IsEnteredOnce ends tree set
      → length set ≤ suc (length (filter (holds ends set) tree))
  inside_size set free only =
      let first = arborescence_enters ends vertices n root tree set t free in
      let h = (ends first.0).1 in
      let head = and_parts (is_member h set) (not (is_member (ends first.0).0 set)) first.2 in
      omega (
        arith,
        length-without_one set h free.set.rising head.0,
        length-covered (head_of ends) (filter (holds ends set) tree) (without_one set h) (IsRising-without_one set h free.set.rising)
            (λ v m. covered first.0 first.1 first.2 v (and_parts (is_member v set) (not (eqb v h)) (sym (is_member-without_one v h set) ∙ m))),
      )
    where
      covered : (e : ℕ) → is_member e tree ≡ true → enters ends set e ≡ true → (v : ℕ)
          → (is_member v set ≡ true) × (not (eqb v (ends e).1) ≡ true)
          → (a : ℕ) × (is_member a (filter (holds ends set) tree) ≡ true) × ((ends a).1 ≡ v)
      covered e em ee v p =
          let w = entered n vertices ends root small tree below t v (below_member free.set p.0)
          (λ same. both_ways _ free.free (ap (λ z. is_member z set) (sym same) ∙ p.0)) in
          let head_in : is_member (ends w.0).1 set ≡ true = ap (λ z. is_member z set) w.2 ∙ p.0 in
          let tail_in : is_member (ends w.0).0 set ≡ true = elim (cases_Bool (is_member (ends w.0).0 set)) [
            | inl i ↦ i
            | inr o ↦ absurd (eqb-false v (ends e).1 (not-true _ p.1) (sym w.2
                ∙ ap (λ z. (ends z).1) (only.once w.0 e w.1 em (and_from _ _ head_in (ap not o)) ee)))
          ] in
          (w.0, is_member-filter (holds ends set) w.0 tree ∙ and_from (is_member w.0 tree) (holds ends set w.0) w.1 (and_from _ _ tail_in head_in), w.2)

  -- so an arc inside comes in only for one inside
  swap_inside : (set : List ℕ) → IsRootFree vertices root set → IsEnteredOnce ends tree set → (x y : ℕ) → is_member x tree ≡ false
      → IsForest ends (with_one (without_one tree y) x) → holds ends set x ≡ true → holds ends set y ≡ true
  swap_inside set free only x y out forest x_in = elim (cases_Bool (holds ends set y)) [
    | inl h ↦ h
    | inr o ↦ absurd (omega (
      arith,
      inside_size set free only,
      length-with_one inside x rising x_new,
      length-forest_inside ends more set (IsRising-with_one inside x rising) (IsForest-subset ends more (with_one (without_one tree y) x) (part o) forest)
          free.set.rising ends_inside free.some,
    ))
  ]
    where
      inside : List ℕ
      inside = filter (holds ends set) tree

      more : List ℕ
      more = with_one inside x

      rising : IsRising inside
      rising = IsRising-filter (holds ends set) tree t.set.rising

      parts : (a : ℕ) → is_member a inside ≡ true → (is_member a tree ≡ true) × (holds ends set a ≡ true)
      parts a m = and_parts (is_member a tree) (holds ends set a) (sym (is_member-filter (holds ends set) a tree) ∙ m)

      x_new : is_member x inside ≡ false
      x_new = false_from_ne_true _ (λ m. both_ways _ out (parts x m).0)

      either : (a : ℕ) → is_member a more ≡ true → (a ≡ x) ⊎ (is_member a inside ≡ true)
      either a m = elim (or_cases (eqb a x) (is_member a inside) (sym (is_member-with_one a x inside) ∙ m)) [ inl e ↦ inl (eqb-true a x e) | inr h ↦ inr h ]

      part : holds ends set y ≡ false → IsSubset more (with_one (without_one tree y) x)
      part o = record {
        inside = λ a m. elim (either a m) [
          | inl same ↦ subst (λ z. is_member z (with_one (without_one tree y) x) ≡ true) (sym same) (exchanged-new tree x y)
          | inr h ↦ exchanged-in tree x y a (parts a h).0 (λ e. both_ways _ o (ap (holds ends set) (sym e) ∙ (parts a h).1))
        ];
      }

      ends_inside : (a : ℕ) → is_member a more ≡ true → (is_member (ends a).0 set ≡ true) × (is_member (ends a).1 set ≡ true)
      ends_inside a m = elim (either a m) [
        | inl same ↦ subst (λ z. (is_member (ends z).0 set ≡ true) × (is_member (ends z).1 set ≡ true)) (sym same) (and_parts _ _ x_in)
        | inr h ↦ and_parts _ _ (parts a h).1
      ]

  where_le : (b c : Bool) (w : ℤ) → pos 0 <ℤ w → (b ≡ true → c ≡ true) → weight_where b w ≤ℤ weight_where c w
  where_le true c w some h = rw (h refl) (omega (arith, ints))
  where_le false true w some h = omega (arith, ints)
  where_le false false w some h = omega (arith, ints)

  pub held_swap : (cuts : List CutWeight) → AllByRecursion (IsWeightedCut vertices root) cuts → AllByRecursion (λ c. IsEnteredOnce ends tree c.set) cuts
      → (x y : ℕ) → is_member x tree ≡ false → IsForest ends (with_one (without_one tree y) x) → held_weight ends cuts x ≤ℤ held_weight ends cuts y
  held_swap [] each only x y out forest = omega (arith, ints)
  held_swap (c ∷ cuts) each only x y out forest = omega (
    arith,
    ints,
    where_le (holds ends c.set x) (holds ends c.set y) c.weight each.0.positive (swap_inside c.set each.0.root_free only.0 x y out forest),
    held_swap cuts each.1 only.1 x y out forest,
  )

  -- what enters each vertex at most once after the exchange has one head
  pub one_head : (x y : ℕ) → (ends x).1 < vertices → is_member x tree ≡ false → EntersOnce ends root (with_one (without_one tree y) x) → (ends x).1 ≡ (ends y).1
  one_head x y l out e =
      let w = entered n vertices ends root small tree below t (ends x).1 l (e.no_root x (exchanged-new tree x y)) in
      elim (cases_eq w.0 y) [
        | inl same ↦ sym w.2 ∙ ap (λ z. (ends z).1) same
        | inr other ↦ absurd (both_ways _ out (ap (λ z. is_member z tree)
            (sym (e.once w.0 x (exchanged-in tree x y w.0 w.1 other) (exchanged-new tree x y) w.2)) ∙ w.1))
      ]

-- the sets around the head of an arc hold it or are entered by it
pub around_head : (ends : ℕ → ℕ × ℕ) (cuts : List CutWeight) (a : ℕ)
    → weight_around cuts (ends a).1 ≡ weight_on ends cuts a +ℤ held_weight ends cuts a
around_head ends [] a = omega (arith, ints)
around_head ends (c ∷ cuts) a = omega (arith, ints, sides (is_member (ends a).0 c.set) (is_member (ends a).1 c.set) c.weight, around_head ends cuts a)
  where
    sides : (tail head : Bool) (w : ℤ) → weight_where head w ≡ weight_where (head && not tail) w +ℤ weight_where (tail && head) w
    sides true true w = omega (arith, ints)
    sides true false w = omega (arith, ints)
    sides false true w = omega (arith, ints)
    sides false false w = omega (arith, ints)

module _ (vertices : ℕ) (arcs : List (ℕ × ℕ)) (costs : List ℤ) (root : ℕ) (tree : List ℕ) (cuts : List CutWeight) (left : List ℤ)
    (p : ArePriced vertices arcs costs root tree cuts left) where
  -- the tree has the least of costs and held weights together among the arcs of one head
  pub cost_swap : (x y : ℕ) → x < length arcs → is_member y tree ≡ true → (ends_of arcs x).1 ≡ (ends_of arcs y).1
      → (cost_at costs y +ℤ held_weight (ends_of arcs) cuts y) ≤ℤ (cost_at costs x +ℤ held_weight (ends_of arcs) cuts x)
  cost_swap x y l m same =
      let at_x = p.left_is x l in
      let at_y = p.left_is y (below_member p.right.spans.set m) in
      let low = left_low vertices arcs costs root tree cuts left p x l in
      let none = tree_is_spent vertices arcs costs root tree cuts left p y m in
      omega (arith, ints, around_head (ends_of arcs) cuts x, around_head (ends_of arcs) cuts y, ap (weight_around cuts) same)
