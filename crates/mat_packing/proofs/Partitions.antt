-- A partition of the vertices bounds the disjoint spanning trees: the edges inside the classes make at least as many components as there are
-- classes, so their rank leaves room for few of the trees' edges, and the others cross.
-- Idea of the components: along the edges inside no class is left, so the least vertex of a component is in each class that the component
-- meets; and a set that meets each of disjoint classes has at least as many members as there are classes.
use Rattle.mat_packing.proofs.Common.{◌≡◌, ℕ, suc, ◌+◌, ◌-◌, ◌*◌, ◌<◌, ◌≤◌, Bool, true, false, not, ◌&&◌, ◌⊎◌, eqb, ltb, List, length, inl, inr, refl, sym, ap, ◌∙◌, arith, cases_eq, cases_lt, and_parts, and_from, eq-eqb, false_from_ne_true, lt-ltb, all_below, is_member, minus, with_one, AreDisjoint}
use Rattle.mat_packing.proofs.Common.{indicator, length-with_one, disjoint-apart, length-meeting, multiplicity-nowhere, below_member, is_member-all_below, IsRising-all_below, IsSubset-all_below, is_member-minus, same_members, IsRising-minus, member_from_some, IsSet-those_below}
use Rattle.mat_packing.proofs.Common.{is_member-those_below, some_below_gives, IsBase, rank, rising, length-independent, is_graphic, least_reached, number_of_components, least_merged, constant_on_components, least_merged-le, least_merged-fixed, graphic_laws, rank_below_vertices, part_at, cut_bounds}
use Rattle.mat_packing.proofs.Common.{AreBases, crossing, stays, AreTrees, IsRightPartition, IsSpanningTree}
use Rattle.mat_sets.specs.Search.{those_below}
use Rattle.mat_graphic.proofs.ComponentCounts.{least_reached-merged, rank_and_number}
use Rattle.mat_packing.proofs.Copies.{bases_are_parts, bases_count, copies, copy_laws, ranks-copies}

-- ---- partitions

module _ (ends : ℕ → ℕ × ℕ) (vertices count : ℕ) (inside : (e : ℕ) → e < count → ((ends e).0 < vertices) × ((ends e).1 < vertices)) where
  abbrev pub E : List ℕ
  E = all_below count

  abbrev inner : List (List ℕ) → List ℕ
  inner classes = those_below count (stays ends classes)

  abbrev pub p : List ℕ → Bool
  p = is_graphic count ends

  -- an edge inside a class has both ends in each class that has one
  same_class : (classes : List (List ℕ)) → AreDisjoint classes → (q e : ℕ) → stays ends classes e ≡ true
      → is_member (ends e).0 (part_at classes q) ≡ is_member (ends e).1 (part_at classes q)
  same_class classes d q e h =
      let w = some_below_gives (length classes) (λ q. is_member (ends e).0 (part_at classes q) && is_member (ends e).1 (part_at classes q)) h in
      let both = and_parts _ _ w.2 in
      elim (cases_eq q w.0) [
        | inl s ↦ ap (λ r. is_member (ends e).0 (part_at classes r)) s ∙ both.0 ∙ sym (ap (λ r. is_member (ends e).1 (part_at classes r)) s ∙ both.1)
        | inr o ↦ disjoint-apart classes w.0 q (ends e).0 d (λ s. o (sym s)) both.0 ∙ sym (disjoint-apart classes w.0 q (ends e).1 d (λ s. o (sym s)) both.1)
      ]

  module _ (k : ℕ) (classes : List (List ℕ)) (r : IsRightPartition vertices count ends k classes) where
    apart : AreDisjoint classes
    apart = record {
      once = λ x. elim (cases_lt x vertices) [
        | inl l ↦ (let e = r.once x l in omega arith)
        | inr g ↦ (let e = multiplicity-nowhere x classes (λ i l m. let b = r.below i x l m in omega arith) in omega arith)
      ];
    }

    -- the least vertex of a component is in the same class
    least_in : (q x : ℕ) → is_member x (part_at classes q) ≡ true → is_member (least_merged ends (inner classes) x) (part_at classes q) ≡ true
    least_in q x m =
        let X = inner classes in
        let f = λ (v : ℕ). indicator (is_member v (part_at classes q)) in
        let same : f x ≡ f (least_merged ends X x) = constant_on_components ends f X
        (λ e h. ap indicator (same_class classes apart q e (and_parts (ltb e count) _ (sym (is_member-those_below e count (stays ends classes)) ∙ h)).1)) x (least_merged ends X x) (sym (least_merged-fixed ends X x)) in
        holds _ _ m same
      where
        holds : (a b : Bool) → a ≡ true → indicator a ≡ indicator b → b ≡ true
        holds a true e h = refl
        holds true false e h = absurd (omega arith)
        holds false false e h = e

    many_components : length classes ≤ number_of_components vertices ends (inner classes)
    unfolding number_of_components
    many_components =
        let X = inner classes in
        let rx = (IsSet-those_below count (stays ends classes)).rising in
        let least = λ (v : ℕ). eqb (least_reached ends X v) v in
        length-meeting (those_below vertices least) classes (IsSet-those_below vertices least).rising apart (λ q l.
        let x = member_from_some (part_at classes q) (r.filled q l) in
        let v = least_merged ends X x.0 in
        let small : v < vertices = (let a = r.below q x.0 l x.1 in let b = least_merged-le ends X x.0 in omega arith) in
        (v, is_member-those_below v vertices least ∙ and_from (ltb v vertices) (least v) (lt-ltb v vertices small) (eq-eqb _ _ (least_reached-merged ends X v rx ∙ least_merged-fixed ends X x.0)), least_in q x.0 x.1))

    crossing_is : minus E (inner classes) ≡ crossing count ends classes
    crossing_is = same_members _ _ (IsRising-minus E _ (IsRising-all_below count)) (IsSet-those_below count (λ e. not (stays ends classes e))).rising
        (λ e. is_member-minus e E (inner classes) ∙ ap (λ b. b && not (is_member e (inner classes))) (is_member-all_below e count)
        ∙ ap (λ b. ltb e count && not b) (is_member-those_below e count (stays ends classes)) ∙ turn (ltb e count) (stays ends classes e)
        ∙ sym (is_member-those_below e count (λ e. not (stays ends classes e))))
      where
        turn : (a b : Bool) → (a && not (a && b)) ≡ (a && not b)
        turn true b = refl
        turn false b = refl

    -- a spanning tree is a base
    tree_base : (tree : List ℕ) → IsSpanningTree vertices count ends tree → IsBase count p tree
    tree_base tree t = record {
      passes = t.forest;
      full = λ x l o. false_from_ne_true _ (λ h.
          let size = t.size in
          let more = length-with_one tree x (rising (graphic_laws count ends) tree t.forest) o in
          let some = length-independent (graphic_laws count ends) (with_one tree x) h in
          let most = rank_below_vertices ends vertices count inside (omega arith) in
          omega arith);
    }

    pub few_trees : (trees : List (List ℕ)) → AreTrees vertices count ends trees → length trees < k
    few_trees trees t =
        let laws = graphic_laws count ends in
        let b : AreBases count p trees = record { disjoint = t.disjoint; each = λ i l. tree_base (part_at trees i) (t.each i l) } in
        let set = IsSet-those_below count (stays ends classes) in
        let n = length trees in
        let bound = cut_bounds (copies p n) trees E (inner classes) (copy_laws laws n) (bases_are_parts laws trees b) (IsRising-all_below count) set.rising (IsSubset-all_below count (inner classes) set.below) in
        let all = bases_count laws trees b in
        let ranks = ranks-copies p n (inner classes) in
        let cross = ap length crossing_is in
        let number = rank_and_number ends count vertices (inner classes) set (λ e m. inside e (below_member set m)) in
        let many = many_components in
        let few = r.few in
        few_of n k vertices (length classes) (rank p (inner classes)) (length (crossing count ends classes)) (rank p E) (omega arith) (full trees t) (omega arith) few
      where
        full : (trees : List (List ℕ)) → AreTrees vertices count ends trees → (length trees ≡ 0) ⊎ (suc (rank p E) ≡ vertices)
        full trees t = elim (cases_lt 0 (length trees)) [
          | inl some ↦ (let tree = t.each 0 some in
              let size = tree.size in
              let least = length-independent (graphic_laws count ends) (part_at trees 0) tree.forest in
              let most = rank_below_vertices ends vertices count inside (omega arith) in
              inr (omega arith))
          | inr none ↦ inl (omega arith)
        ]

        few_of : (n k v q r c e : ℕ) → r + q ≤ v → (n ≡ 0) ⊎ (suc e ≡ v) → n * e ≤ c + n * r → c < k * (q - 1) → n < k
        few_of n k v q r c e room base bound few = elim (cases_lt n k) [
          | inl less ↦ less
          | inr le ↦ elim base [
            | inl none ↦ (let z : k ≡ 0 = omega arith in let f : k * (q - 1) ≡ 0 * (q - 1) = ap (λ m. m * (q - 1)) z in absurd (omega arith))
            | inr one ↦ absurd (elim (cases_lt 0 q) [
              | inl some ↦ (let d : e ≡ r + (q - 1) + (e - (r + (q - 1))) = omega arith in spread n k (n - k) e r (q - 1) (e - (r + (q - 1))) c (omega arith) d bound few)
              | inr none ↦ (let z : q - 1 ≡ 0 = omega arith in let f : k * (q - 1) ≡ k * 0 = ap (λ m. k * m) z in omega arith)
            ])
          ]
        ]
          where
            spread : (n k j e r q d c : ℕ) → n ≡ k + j → e ≡ r + q + d → n * e ≤ c + n * r → c < k * q → ⊥
            spread n k j e r q d c a b bound few =
                let f : n * e ≡ n * r + n * q + n * d = ap (λ m. n * m) b ∙ omega arith in
                let g : n * q ≡ k * q + j * q = ap (λ m. m * q) a ∙ omega arith in
                omega (arith, f, g, bound, few)
