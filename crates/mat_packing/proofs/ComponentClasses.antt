-- The components of the cut of filled copies are a partition that allows few spanning trees: each crossing edge is outside the cut, and there
-- are as many classes as components.
use Rattle.mat_packing.proofs.Common.{◌≡◌, ◌≢◌, ◌∙◌, ℕ, suc, ◌+◌, ◌-◌, ◌*◌, ◌<◌, ◌≤◌, Bool, true, false, not, ◌&&◌, ◌||◌, eqb, ltb, List, [], ◌∷◌, length, get_or, map, refl, sym, ap, subst, arith, ◌↔◌, and_from, and_parts, both_ways, eq-eqb, eqb-true, false_from_ne_true, lt-ltb, ltb-true, not-true}
use Rattle.mat_packing.proofs.Common.{false≢true, get_or-map, length-map, indicator, multiplicity, ends_of, IsGraph, all_below, is_member, minus, IsSet, RisesFrom, minus_from, below_member, is_member-all_below, IsRising-all_below, is_member-get_or, missing_below, same_members, IsRising-minus}
use Rattle.mat_packing.proofs.Common.{some_from_member, is_member-those_below, some_below_from, IsSet-those_below, length-subset, multiplicity-gives, rank, rising, length-independent, class_of, is_graphic, least_reached, number_of_components, roots_of, IsLeastReached, least_merged}
use Rattle.mat_packing.proofs.Common.{least_merged-fixed, least_merged-le, member_within, graphic_laws, rank_below_vertices, part_at, is_partition, HasNoTrees, IsRightTreesAnswer, AreFilledCopies, crossing, stays, AreTrees, IsRightPartition}
use Rattle.mat_graphic.proofs.ComponentCounts.{least_reached-merged, rank_and_number, IsLeastReached-unique}
use Rattle.mat_packing.specs.declared.trees.Trees.{Trees}
use Rattle.mat_packing.specs.declared.trees.Trees.TheVariants.{Trees as AllTrees, Partition}
use Rattle.mat_packing.proofs.BaseCounts.{short_by, union_short, AreAtMost}
use Rattle.mat_packing.proofs.Partitions.{few_trees}

-- a set that holds x exactly where its number is y
once_in : (f : ℕ → List ℕ) (x y : ℕ) → ((r : ℕ) → is_member x (f r) ≡ eqb y r) → (lo : ℕ) (rs : List ℕ) → RisesFrom lo rs → multiplicity x (map f rs) ≡ indicator (is_member y rs)
unfolding multiplicity
once_in f x y same lo [] r = refl
once_in f x y same lo (s ∷ rs) r =
    let rest = once_in f x y same (suc s) rs r.1 in
    let here = ap indicator (same s) in
    one (eqb y s) (is_member y rs) (λ e. subst (λ z. is_member z rs ≡ false) (sym (eqb-true y s e)) (missing_below s (suc s) rs (omega arith) r.1)) here rest
  where
    one : {m k : ℕ} (a b : Bool) → (a ≡ true → b ≡ false) → k ≡ indicator a → m ≡ indicator b → k + m ≡ indicator (a || b)
    one true true h e f = absurd (both_ways true (h refl) refl)
    one true false h e f = omega (arith, e, f)
    one false true h e f = omega (arith, e, f)
    one false false h e f = omega (arith, e, f)

-- ---- components

module _ (ends : ℕ → ℕ × ℕ) (vertices count : ℕ) (inside : (e : ℕ) → e < count → ((ends e).0 < vertices) × ((ends e).1 < vertices)) (A : List ℕ) (set : IsSet count A)
    (t : ℕ → ℕ) (least : (v : ℕ) → v < vertices → IsLeastReached ends A v (t v)) where
  abbrev R : List ℕ
  R = roots_of vertices t

  abbrev pub C : List (List ℕ)
  C = map (class_of vertices t) R

  t_is : (v : ℕ) → v < vertices → least_merged ends A v ≡ t v
  t_is v l = IsLeastReached-unique ends A v (t v) set.rising (least v l)

  in_class : (x r : ℕ) → is_member x (class_of vertices t r) ≡ (ltb x vertices && eqb (t x) r)
  in_class x r = is_member-those_below x vertices (λ v. eqb (t v) r)

  length_C : length C ≡ length R
  length_C = length-map R (class_of vertices t)

  class_at : (q : ℕ) → q < length C → part_at C q ≡ class_of vertices t (get_or R q 0)
  class_at q l = get_or-map (class_of vertices t) R q 0 [] (let e = length_C in omega arith)

  root_at : (q : ℕ) → q < length C → (ltb (get_or R q 0) vertices ≡ true) × (eqb (t (get_or R q 0)) (get_or R q 0) ≡ true)
  root_at q l =
      let r = get_or R q 0 in
      and_parts (ltb r vertices) (eqb (t r) r) (sym (is_member-those_below r vertices (λ v. eqb (t v) v)) ∙ is_member-get_or R q r (let e = length_C in omega arith) refl)

  small : (x : ℕ) → x < vertices → t x < vertices
  small x l = let a = t_is x l in let b = least_merged-le ends A x in omega arith

  t_fixed : (x : ℕ) → x < vertices → t (t x) ≡ t x
  t_fixed x l = sym (t_is (t x) (small x l)) ∙ ap (least_merged ends A) (sym (t_is x l)) ∙ least_merged-fixed ends A x ∙ t_is x l

  t_root : (x : ℕ) → x < vertices → is_member (t x) R ≡ true
  t_root x l = is_member-those_below (t x) vertices (λ v. eqb (t v) v) ∙ and_from (ltb (t x) vertices) (eqb (t (t x)) (t x)) (lt-ltb (t x) vertices (small x l)) (eq-eqb (t (t x)) (t x) (t_fixed x l))

  once : (x : ℕ) → x < vertices → multiplicity x C ≡ 1
  once x l = once_in (class_of vertices t) x (t x) (λ r. in_class x r ∙ ap (λ b. b && eqb (t x) r) (lt-ltb x vertices l)) 0 R (IsSet-those_below vertices (λ v. eqb (t v) v)).rising.rises ∙ ap indicator (t_root x l)

  -- both ends of an edge of the cut are in one class
  cut_stays : (e : ℕ) → is_member e A ≡ true → stays ends C e ≡ true
  cut_stays e m =
      let l = inside e (below_member set m) in
      let w = multiplicity-gives (ends e).0 C (let o = once (ends e).0 l.0 in omega arith) in
      let r = get_or R w.0 0 in
      let at = ap (λ c. is_member (ends e).0 c) (class_at w.0 w.1) in
      let first = and_parts (ltb (ends e).0 vertices) (eqb (t (ends e).0) r) (sym (in_class (ends e).0 r) ∙ sym at ∙ w.2) in
      let same : t (ends e).1 ≡ r = sym (t_is (ends e).1 l.1) ∙ sym (member_within ends A e m) ∙ t_is (ends e).0 l.0 ∙ eqb-true (t (ends e).0) r first.1 in
      let second : is_member (ends e).1 (part_at C w.0) ≡ true = ap (λ c. is_member (ends e).1 c) (class_at w.0 w.1) ∙ in_class (ends e).1 r
      ∙ and_from (ltb (ends e).1 vertices) (eqb (t (ends e).1) r) (lt-ltb (ends e).1 vertices l.1) (eq-eqb (t (ends e).1) r same) in
      some_below_from (length C) w.0 (λ q. is_member (ends e).0 (part_at C q) && is_member (ends e).1 (part_at C q)) w.1 (and_from _ _ w.2 second)

  crossing_outside : length (crossing count ends C) ≤ length (minus (all_below count) A)
  crossing_outside = length-subset (crossing count ends C) (minus (all_below count) A) (IsSet-those_below count (λ e. not (stays ends C e))).rising (IsRising-minus (all_below count) A (IsRising-all_below count)) (record {
    inside = λ e m.
        (let b = and_parts (ltb e count) (not (stays ends C e)) (sym (is_member-those_below e count (λ e. not (stays ends C e))) ∙ m) in
        minus_from (all_below count) A e (is_member-all_below e count ∙ b.0) (false_from_ne_true _ (λ h. both_ways _ (not-true _ b.1) (cut_stays e h))));
  })

  number : length C ≡ number_of_components vertices ends A
  unfolding number_of_components
  number = length_C ∙ ap length (same_members _ _ (IsSet-those_below vertices (λ v. eqb (t v) v)).rising (IsSet-those_below vertices (λ v. eqb (least_reached ends A v) v)).rising
      (λ v. is_member-those_below v vertices (λ v. eqb (t v) v) ∙ within (ltb v vertices) (λ h. ap (λ z. eqb z v) (sym (t_is v (ltb-true v vertices h)) ∙ sym (least_reached-merged ends A v set.rising)))
      ∙ sym (is_member-those_below v vertices (λ v. eqb (least_reached ends A v) v))))
    where
      within : {a b : Bool} (l : Bool) → (l ≡ true → a ≡ b) → (l && a) ≡ (l && b)
      within true h = h refl
      within false h = refl

  module _ (k : ℕ) (some : 0 < vertices) (parts : List (List ℕ)) (f : AreFilledCopies count (is_graphic count ends) k parts A) where
    at_most : AreAtMost (vertices - 1) parts
    at_most = record {
      rise = λ i l. rising (graphic_laws count ends) (part_at parts i) (f.passes i l);
      most = λ i l. (let a = length-independent (graphic_laws count ends) (part_at parts i) (f.passes i l) in let b = rank_below_vertices ends vertices count inside some in omega arith);
    }

    few : (i : ℕ) → i < length parts → length (part_at parts i) ≢ vertices - 1 → length (crossing count ends C) < k * (length C - 1)
    few i l other =
        let less = union_short (vertices - 1) parts at_most i l (let m = at_most.most i l in omega arith) in
        let same : length parts * (vertices - 1) ≡ k * (vertices - 1) = ap (λ j. j * (vertices - 1)) f.long in
        let size = f.size in
        let short = short_by (length (minus (all_below count) A)) (rank (is_graphic count ends) A) (vertices - 1) k (omega arith) in
        let sum = rank_and_number ends count vertices A set (λ e m. inside e (below_member set m)) in
        let classes = number in
        let gap : (vertices - 1) - rank (is_graphic count ends) A ≡ length C - 1 = omega arith in
        let last = subst (λ d. length (minus (all_below count) A) < k * d) gap short.1 in
        let cross = crossing_outside in
        omega (arith, last, cross)

    pub right_partition : (i : ℕ) → i < length parts → length (part_at parts i) ≢ vertices - 1 → IsRightPartition vertices count ends k C
    right_partition i l other = record {
      filled = λ q h.
          (let r = get_or R q 0 in
          let b = root_at q h in
          subst (λ c. 0 < length c) (sym (class_at q h)) (some_from_member r (class_of vertices t r) (in_class r r ∙ and_from (ltb r vertices) (eqb (t r) r) b.0 b.1)));
      below = λ q x h m. ltb-true x vertices (and_parts (ltb x vertices) (eqb (t x) (get_or R q 0)) (sym (in_class x (get_or R q 0)) ∙ sym (ap (is_member x) (class_at q h)) ∙ m)).0;
      once = once;
      few = few i l other;
    }

pub right_trees : (ends : ℕ → ℕ × ℕ) (vertices count k : ℕ) (parts : List (List ℕ)) (cut : List ℕ) → 0 < vertices → AreFilledCopies count (is_graphic count ends) k parts cut
    → ((i : ℕ) → i < length parts → length (part_at parts i) ≡ vertices - 1) → AreTrees vertices count ends parts
right_trees ends vertices count k parts cut some f full = record {
  disjoint = f.disjoint;
  each = λ i l. record { size = (let e = full i l in omega arith); forest = f.passes i l };
}

-- what the parts of `pack_trees` tell
pub partition_told : (edges graph_edges : List (ℕ × ℕ)) (vertices graph_vertices k : ℕ) (parts : List (List ℕ)) (cut table : List ℕ) (classes : List (List ℕ)) → IsGraph vertices edges → graph_edges ≡ edges
    → graph_vertices ≡ vertices → 0 < vertices → AreFilledCopies (length graph_edges) (is_graphic (length graph_edges) (ends_of graph_edges)) k parts cut
    → ((v : ℕ) → v < graph_vertices → IsLeastReached (ends_of graph_edges) cut v (get_or table v 0))
    → classes ≡ map (class_of vertices (λ v. get_or table v 0)) (roots_of vertices (λ v. get_or table v 0))
    → (i : ℕ) → i < length parts → length (part_at parts i) ≢ vertices - 1 → IsRightPartition vertices (length edges) (ends_of edges) k classes
partition_told edges graph_edges vertices graph_vertices k parts cut table classes graph e n some f least told i l other =
    let filled = subst (λ E. AreFilledCopies (length E) (is_graphic (length E) (ends_of E)) k parts cut) e f in
    let near = subst (λ E. (v : ℕ) → v < graph_vertices → IsLeastReached (ends_of E) cut v (get_or table v 0)) e least in
    let lowest = subst (λ m. (v : ℕ) → v < m → IsLeastReached (ends_of edges) cut v (get_or table v 0)) n near in
    subst (λ C. IsRightPartition vertices (length edges) (ends_of edges) k C) (sym told)
    (right_partition (ends_of edges) vertices (length edges) (λ e l. (graph.first e l, graph.second e l)) cut filled.set (λ v. get_or table v 0) lowest k some parts filled i l other)

-- a right answer is a partition exactly where there are no so many trees
pub no_trees_told : (vertices : ℕ) (edges : List (ℕ × ℕ)) (k : ℕ) → IsGraph vertices edges → (found : Trees) → IsRightTreesAnswer vertices edges k found
    → (is_partition found ≡ true) ↔ HasNoTrees vertices edges k
no_trees_told vertices edges k graph (AllTrees trees) right = ((λ e. absurd (false≢true e)), λ none. absurd (none trees right.0 right.1))
no_trees_told vertices edges k graph (Partition classes) right = (
  (λ _ trees are same.
      let fewer = few_trees (ends_of edges) vertices (length edges) (λ e l. (graph.first e l, graph.second e l)) k classes right trees are in
      absurd (omega arith)),
  λ _. refl,
)
