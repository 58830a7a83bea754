-- A set is linked exactly where as many disjoint paths as it has members lead to its vertices: they end at different ones of them, so at
-- each; and where there are such paths, no separator has fewer vertices than the set has members.
use Rattle.mat_linked.proofs.Common.{◌≡◌, ℕ, ◌≤◌, true, eqb, List, [], length, map, inl, inr, sym, ap, ◌∙◌, arith, both_ways, cases_Bool, eq-eqb, eqb-true, length-map, is_member, union, IsRising, IsSet, length-distinct, length-distinct_subset, IsRising-nil, IsRising-union, is_member-union}
use Rattle.mat_linked.proofs.Common.{same_members, same_size_subset, or_none, last_of, IsLinking, is_gammoid-from, is_gammoid-gives, is_gammoid, vertices_of, IsGammoid, AreDistinct-vertices_of, for_more, linked_by, size_of}
use Rattle.mat_flow.proofs.PathChoiceLaws.{ends_are_targets}
use Rattle.mat_flow.proofs.PathFamilyLaws.{AreDistinct-ends, ends_of, is_member-ends_of}
use Rattle.mat_flow.proofs.PathLaws.{at_most_a_separator}
use Rattle.mat_flow.proofs.SimplePathLaws.{ArePathsApart-disjoint}
use Rattle.mat_linked.proofs.VertexSets.{length-vertices_of}

module _ (vertices : ℕ) (arcs : List (ℕ × ℕ)) (sources targets : List ℕ) (given : IsGammoid vertices arcs sources targets)
    (X ends : List ℕ) (set : IsSet (length targets) X) (rises : IsRising ends)
    (members : (v : ℕ) → is_member v ends ≡ is_member v (vertices_of targets X))
    (paths : List (List ℕ)) (separator : List ℕ) (linking : IsLinking arcs sources ends paths separator) where
  size_of_ends : length ends ≡ length X
  size_of_ends =
      let vs = vertices_of targets X in
      ap length (same_members ends (union vs []) rises (IsRising-union vs [] IsRising-nil)
      (λ v. members v ∙ sym (is_member-union v vs [] ∙ or_none (is_member v vs))))
      ∙ length-distinct vs (AreDistinct-vertices_of targets X given.distinct set) ∙ length-vertices_of targets X

  -- the last vertices of the paths are ends
  ended : (v : ℕ) → is_member v (map last_of paths) ≡ true → is_member v ends ≡ true
  ended = ends_are_targets arcs sources ends paths linking.disjoint.each

  at_most : length paths ≤ length X
  at_most =
      let few = length-distinct_subset (map last_of paths) ends (AreDistinct-ends arcs sources ends paths linking.disjoint) rises
      (record { inside = ended }) in
      omega (arith, length-map paths last_of, size_of_ends)

  -- as many paths as members end at all ends
  all_ended : length paths ≡ length X → (v : ℕ) → is_member v (vertices_of targets X) ≡ true → is_member v (map last_of paths) ≡ true
  all_ended many v m =
      let distinct = AreDistinct-ends arcs sources ends paths linking.disjoint in
      let size = length-distinct (map last_of paths) distinct in
      let same = same_size_subset (ends_of paths) ends (IsRising-union (map last_of paths) [] IsRising-nil) rises
      (record { inside = λ w k. ended w (sym (is_member-ends_of w paths) ∙ k) }) (omega (arith, length-map paths last_of, size_of_ends)) in
      sym (is_member-ends_of v paths) ∙ ap (is_member v) same ∙ members v ∙ m

  enough : is_gammoid vertices arcs sources targets X ≡ true → length paths ≡ length X
  enough h =
      let g = is_gammoid-gives vertices arcs sources targets X h in
      let more = for_more arcs sources targets ends X g (λ v m. members v ∙ m) in
      let few = at_most_a_separator arcs sources ends separator g.paths linking.separates (ArePathsApart-disjoint arcs sources ends g.paths more) in
      omega (arith, size_of arcs sources targets X g, linking.as_many, at_most)

  pub is_gammoid-counted : eqb (length paths) (length X) ≡ is_gammoid vertices arcs sources targets X
  is_gammoid-counted = elim (cases_Bool (eqb (length paths) (length X))) [
    | inl many ↦ many ∙ sym (is_gammoid-from vertices arcs sources targets given X
        (linked_by arcs sources targets given.distinct X ends paths set linking.disjoint (all_ended (eqb-true _ _ many))))
    | inr fewer ↦ elim (cases_Bool (is_gammoid vertices arcs sources targets X)) [
      | inl h ↦ absurd (both_ways _ fewer (eq-eqb _ _ (enough h)))
      | inr h ↦ fewer ∙ sym h
    ]
  ]
