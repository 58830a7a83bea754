-- Disjoint paths to some of the ends in any order, and paths for other targets: what the sets that are linked to the sources need.
use Rattle.mat_flow.proofs.Common.{◌≡◌, ℕ, true, eqb, List, [], ◌∷◌, map, inl, inr, ap, ◌∙◌, eqb-true, false≢true, or_cases, All-cons, All-head, All-nil, All-tail, is_member, AreDistinct, is_member-tail, is_member-head, last_of, AreDisjointPaths, IsPathBetween}
use Rattle.std.specs.List.{All}
use Rattle.mat_flow.proofs.PathFamilyLaws.{AreDisjointPaths-routes, AreRoutes-paths, ends_of, is_member-ends_of, last_of-paths_to, paths_to, route_to}

module _ (arcs : List (ℕ × ℕ)) (sources targets : List ℕ) where
  -- paths end at targets
  pub ends_are_targets : (paths : List (List ℕ)) → All (IsPathBetween arcs sources targets) paths → (v : ℕ)
      → is_member v (map last_of paths) ≡ true
      → is_member v targets ≡ true
  ends_are_targets [] all v m = absurd (false≢true m)
  ends_are_targets (path ∷ paths) all v m = elim (or_cases (eqb v (last_of path)) (is_member v (map last_of paths)) m) [
    | inl same ↦
        ap (λ z. is_member z targets) (eqb-true v (last_of path) same) ∙ (All-head (IsPathBetween arcs sources targets) path paths all).ends
    | inr later ↦ ends_are_targets paths (All-tail (IsPathBetween arcs sources targets) path paths all) v later
  ]

  for_targets : (others : List ℕ) (paths : List (List ℕ)) → All (IsPathBetween arcs sources targets) paths
      → ((v : ℕ) → is_member v (map last_of paths) ≡ true → is_member v others ≡ true) → All (IsPathBetween arcs sources others) paths
  for_targets others [] all inside = All-nil (IsPathBetween arcs sources others)
  for_targets others (path ∷ paths) all inside =
      let p = All-head (IsPathBetween arcs sources targets) path paths all in
      All-cons (IsPathBetween arcs sources others) path paths
      (record { joined = p.joined; starts = p.starts; ends = inside (last_of path) (is_member-head (last_of path) (map last_of paths)) })
      (for_targets others paths (All-tail (IsPathBetween arcs sources targets) path paths all)
      (λ v m. inside v (is_member-tail v (last_of path) (map last_of paths) m)))

  -- the same paths for other targets, among which their ends are
  pub AreDisjointPaths-targets : (others : List ℕ) (paths : List (List ℕ)) → AreDisjointPaths arcs sources targets paths
      → ((v : ℕ) → is_member v (map last_of paths) ≡ true → is_member v others ≡ true) → AreDisjointPaths arcs sources others paths
  AreDisjointPaths-targets others paths d inside = record { each = for_targets others paths d.each inside; distinct = d.distinct }

  -- disjoint paths that end at these vertices, one after the other
  pub record PathsTo (some : List ℕ) : Type 0 where
    pub paths : List (List ℕ)
    pub disjoint : AreDisjointPaths arcs sources targets paths
    pub ends : map last_of paths ≡ some

  -- disjoint paths to some of the ends
  pub paths_to_some : (paths : List (List ℕ)) → AreDisjointPaths arcs sources targets paths → (some : List ℕ) → AreDistinct some
      → ((v : ℕ) → is_member v some ≡ true → is_member v (map last_of paths) ≡ true) → PathsTo some
  paths_to_some paths d some distinct inside =
      let family = AreRoutes-paths arcs sources targets paths d in
      let among : (v : ℕ) → is_member v some ≡ true → is_member v (ends_of paths) ≡ true = λ v m. is_member-ends_of v paths
      ∙ inside v m in
      record {
        paths = paths_to (route_to paths) some;
        disjoint = AreDisjointPaths-routes arcs sources targets family some distinct among;
        ends = last_of-paths_to family some among;
      }
