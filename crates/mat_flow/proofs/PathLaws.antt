-- The laws of disjoint paths: one path more or a separator, at most as many paths as a separator has vertices, and Menger's theorem
-- (Schrijver, chapter 9).
use Rattle.mat_flow.proofs.Common.{◌≡◌, ℕ, zero, suc, ◌+◌, ◌<◌, ◌≤◌, true, false, ◌||◌, eqb, List, [], ◌∷◌, length, map, reverse, ◌⊎◌, inl, inr, refl, sym, ap, ◌∙◌, arith, both_ways, eqb-true, false_from_ne_true, false≢true, or_cases, or_left, length-map, All-head, All-nil, is_member, union}
use Rattle.mat_flow.proofs.Common.{with_one, AreDistinct, length-with_one, AreDisjoint-first, AreDistinct-rising, length-distinct, length-distinct_subset, is_member-left, is_member-right, IsRising-nil, IsRising-union, is_member-head, is_member-union, is_member-with_one, first_of, last_of}
use Rattle.mat_flow.proofs.Common.{AreDisjointPaths, ArePathsApart, HasOnePathMore, HasSeparatorOf, IsLinking, IsPath, IsPathBetween, IsSeparator}
use Rattle.std.specs.List.{concat}
use Rattle.mat_flow.proofs.PathFamilyLaws.{AreDisjointPaths-routes, AreDistinct-ends, AreRoutes-paths, IsSeparator-routes, ends_of, is_member-ends_of, last_of-paths_to, paths_to, route_to}
use Rattle.mat_flow.proofs.Routes.{HasOneEndMore}
use Rattle.mat_flow.proofs.RouteStepLaws.{routes_step}
use Rattle.mat_flow.proofs.SimplePathLaws.{ArePathsApart-disjoint, ArePathsApart-tail, simple_paths}

module _ (arcs : List (ℕ × ℕ)) (sources targets : List ℕ) where
  -- ---- one path more

  length-ends_of : (paths : List (List ℕ)) → AreDisjointPaths arcs sources targets paths → length (ends_of paths) ≡ length paths
  length-ends_of paths d = length-distinct (map last_of paths) (AreDistinct-ends arcs sources targets paths d) ∙ length-map paths last_of

  more_paths : (paths : List (List ℕ)) → AreDisjointPaths arcs sources targets paths
      → HasOneEndMore arcs sources (λ v. is_member v targets) (λ v. false) (ends_of paths) → HasOnePathMore arcs sources targets paths
  more_paths paths d m =
      let grown = with_one (ends_of paths) m.end in
      let last = last_of-paths_to m.routes grown (λ e h. h) in
      record {
        larger = paths_to m.route grown;
        disjoint = AreDisjointPaths-routes arcs sources targets m.routes grown (AreDistinct-rising grown m.routes.rises) (λ e h. h);
        one_more = length-map grown (λ e. reverse (m.route e))
            ∙ length-with_one (ends_of paths) m.end (IsRising-union (map last_of paths) [] IsRising-nil) m.new
            ∙ ap suc (length-ends_of paths d);
        further = m.end;
        new = sym (is_member-ends_of m.end paths) ∙ m.new;
        ends = λ v. ap (is_member v) last ∙ is_member-with_one v m.end (ends_of paths) ∙ ap (λ b. eqb v m.end || b) (is_member-ends_of v paths);
      }

  one_more_disjoint : (paths : List (List ℕ)) → AreDisjointPaths arcs sources targets paths
      → HasOnePathMore arcs sources targets paths ⊎ HasSeparatorOf arcs sources targets (length paths)
  one_more_disjoint paths d =
      let family = AreRoutes-paths arcs sources targets paths d in
      elim (routes_step arcs sources (λ v. is_member v targets) (ends_of paths) (route_to paths) family) [
        | inl m ↦ inl (more_paths paths d m)
        | inr s ↦ inr (record {
          separator = s.separator;
          separates = IsSeparator-routes arcs sources targets s.separator s.rises s.separates;
          size = s.size ∙ length-ends_of paths d;
        })
      ]

  -- paths that share no vertex become one more, which end where they do and at one further target, or a separator is as large as they are many
  pub one_path_more : (paths : List (List ℕ)) → ArePathsApart arcs sources targets paths
      → HasOnePathMore arcs sources targets paths ⊎ HasSeparatorOf arcs sources targets (length paths)
  one_path_more paths a = let s = simple_paths arcs sources targets paths a in elim (one_more_disjoint s.simple s.disjoint) [
    | inl m ↦ inl (record {
      larger = m.larger;
      disjoint = m.disjoint;
      one_more = m.one_more ∙ ap suc s.size;
      further = m.further;
      new = ap (is_member m.further) (sym s.ends) ∙ m.new;
      ends = λ v. m.ends v ∙ ap (λ l. eqb v m.further || is_member v l) s.ends;
    })
    | inr t ↦ inr (record { separator = t.separator; separates = t.separates; size = t.size ∙ s.size })
  ]

  -- ---- at most a separator

  -- different vertices of a separator, one on each path
  record MetVertices (separator : List ℕ) (paths : List (List ℕ)) : Type 0 where
    pub vertices : List ℕ
    pub size : length vertices ≡ length paths
    pub distinct : AreDistinct vertices
    pub members : (v : ℕ) → is_member v vertices ≡ true → is_member v separator ≡ true
    pub inside : (v : ℕ) → is_member v vertices ≡ true → is_member v (concat paths) ≡ true

  met_vertices : (separator : List ℕ) → IsSeparator arcs sources targets separator → (paths : List (List ℕ))
      → ArePathsApart arcs sources targets paths
      → MetVertices separator paths
  met_vertices separator s [] a = record { vertices = []; size = refl; distinct = tt; members = λ v m. absurd (false≢true m); inside = λ v m. m }
  met_vertices separator s (path ∷ paths) a =
      let met = s.meets path (All-head (IsPathBetween arcs sources targets) path paths a.each) in
      let rest = met_vertices separator s paths (ArePathsApart-tail arcs sources targets path paths a) in
      record {
        vertices = met.0 ∷ rest.vertices;
        size = ap suc rest.size;
        distinct = (false_from_ne_true _ (λ m. both_ways _ (AreDisjoint-first path paths a.apart met.0 met.1) (rest.inside met.0 m)), rest.distinct);
        members = λ v m. elim (or_cases (eqb v met.0) (is_member v rest.vertices) m) [
          | inl same ↦ ap (λ z. is_member z separator) (eqb-true v met.0 same) ∙ met.2
          | inr later ↦ rest.members v later
        ];
        inside = λ v m. elim (or_cases (eqb v met.0) (is_member v rest.vertices) m) [
          | inl same ↦ is_member-left v path (concat paths) (ap (λ z. is_member z path) (eqb-true v met.0 same) ∙ met.1)
          | inr later ↦ is_member-right v path (concat paths) (rest.inside v later)
        ];
      }

  -- paths that share no vertex are at most as many as a separator has vertices
  pub at_most_a_separator : (separator : List ℕ) (paths : List (List ℕ)) → IsSeparator arcs sources targets separator
      → ArePathsApart arcs sources targets paths → length paths ≤ length separator
  at_most_a_separator separator paths s a =
      let m = met_vertices separator s paths a in
      omega (arith, m.size, length-distinct_subset m.vertices separator m.distinct s.rises (record { inside = m.members }))

  -- ---- Menger's theorem

  -- a path holds the vertex where it starts, so the sources are a separator
  sources_separate : IsSeparator arcs sources targets (union sources [])
  sources_separate = record {
    rises = IsRising-union sources [] IsRising-nil;
    meets = λ path p. (
      first_of path,
      first_inside path p.joined,
      is_member-union (first_of path) sources [] ∙ or_left (is_member (first_of path) sources) false p.starts,
    );
  }
    where
      first_inside : (path : List ℕ) → IsPath arcs path → is_member (first_of path) path ≡ true
      first_inside [] joined = absurd joined
      first_inside (v ∷ rest) joined = is_member-head v rest

  -- disjoint paths and a separator of as many vertices
  abbrev Linked : Type 0
  Linked = (paths : List (List ℕ)) × (separator : List ℕ) × IsLinking arcs sources targets paths separator

  linked_from : (fuel : ℕ) (paths : List (List ℕ)) → AreDisjointPaths arcs sources targets paths
      → length (union sources []) < length paths + fuel → Linked
  linked_from zero paths d less =
      absurd (omega (arith, at_most_a_separator (union sources []) paths sources_separate (ArePathsApart-disjoint arcs sources targets paths d)))
  linked_from (suc fuel) paths d less = elim (one_more_disjoint paths d) [
    | inl m ↦ linked_from fuel m.larger m.disjoint (let one = m.one_more in omega arith)
    | inr s ↦ (paths, s.separator, record { disjoint = d; separates = s.separates; as_many = sym s.size })
  ]

  pub menger : (paths : List (List ℕ)) × (separator : List ℕ) × IsLinking arcs sources targets paths separator
  menger =
      linked_from (suc (length (union sources []))) [] (record { each = All-nil (IsPathBetween arcs sources targets); distinct = tt }) (omega arith)
