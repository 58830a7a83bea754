-- Paths that pass the test show a set independent, as they are what its independence asks for. And vertices that close the reached ones off
-- are a separator: along a path from a source, each vertex is reached until one is of the closing set.
use Rattle.mat_witness.proofs.Common.{◌≡◌, ℕ, ◌<◌, ◌≤◌, Bool, true, false, not, ◌&&◌, ◌||◌, eqb, List, [], ◌∷◌, length, map, inl, inr, refl, sym, ap, ◌∙◌, arith, and_left, and_parts, and_right, both_ways, eqb-true, false≢true, not-true, or_cases, All-cons, All-nil, bytes_eq-Decides, is_member}
use Rattle.mat_witness.proofs.Common.{AllBelow, IsSet, IsSubset, are_distinct, is_member-tail, is_member-head, are_distinct-gives, first_of, has_arc, last_of, IsPath, IsPathBetween, IsSeparator, is_gammoid-from, is_gammoid-gives, is_gammoid, is_path, vertices_of, IsGammoid, for_more, member_vertex}
use Rattle.mat_witness.proofs.Common.{size_of, vertex_member, is_path-gives, are_closed_off, is_in_either, shows_paths}
use Rattle.std.specs.List.{All, concat, list_all}
use Rattle.std.specs.Str.{bytes_eq}
use Rattle.mat_flow.proofs.PathLaws.{at_most_a_separator}
use Rattle.mat_flow.proofs.SimplePathLaws.{ArePathsApart-disjoint}
use Rattle.mat_witness.proofs.PassingLists.{member_passes}

-- ---- paths that pass the test

-- whether a list is a path from a source
abbrev pub is_source_path : List (ℕ × ℕ) → List ℕ → List ℕ → Bool
is_source_path arcs sources path = is_path arcs path && is_member (first_of path) sources

paths_between : (arcs : List (ℕ × ℕ)) (sources targets : List ℕ) (lists : List (List ℕ)) → list_all (is_source_path arcs sources) lists ≡ true
    → ((v : ℕ) → is_member v (map last_of lists) ≡ true → is_member v targets ≡ true) → All (IsPathBetween arcs sources targets) lists
paths_between arcs sources targets [] all ends = All-nil (IsPathBetween arcs sources targets)
paths_between arcs sources targets (path ∷ lists) all ends =
    let a = and_parts (is_source_path arcs sources path) (list_all (is_source_path arcs sources) lists) all in
    let p = and_parts (is_path arcs path) (is_member (first_of path) sources) a.0 in
    All-cons (IsPathBetween arcs sources targets) path lists
    (record {
      joined = is_path-gives arcs path p.0;
      starts = p.1;
      ends = ends (last_of path) (is_member-head (last_of path) (map last_of lists));
    })
    (paths_between arcs sources targets lists a.1 (λ v m. ends v (is_member-tail v (last_of path) (map last_of lists) m)))

pub paths_are_shown : (vertices : ℕ) (arcs : List (ℕ × ℕ)) (sources targets : List ℕ) (lists : List (List ℕ)) (X : List ℕ)
    → IsGammoid vertices arcs sources targets → IsSet (length targets) X → All (λ path. (0 < length path) × AllBelow vertices path) lists
    → shows_paths arcs sources targets lists X ≡ true → is_gammoid vertices arcs sources targets X ≡ true
paths_are_shown vertices arcs sources targets lists X given set ranged h =
    let a = and_parts (list_all (is_source_path arcs sources) lists) _ h in
    let b = and_parts (bytes_eq (map last_of lists) (vertices_of targets X)) (are_distinct (concat lists)) a.1 in
    let ends = (bytes_eq-Decides (map last_of lists) (vertices_of targets X)).0 b.0 in
    is_gammoid-from vertices arcs sources targets given X (record {
      set = set;
      paths = lists;
      disjoint = record {
        each = paths_between arcs sources (vertices_of targets X) lists a.0 (λ v m. ap (is_member v) (sym ends) ∙ m);
        distinct = are_distinct-gives (concat lists) b.1;
      };
      ends = ends;
    })

-- the test by its parts
module _ (arcs : List (ℕ × ℕ)) (sources targets : List ℕ) (lists : List (List ℕ)) (X : List ℕ) where
  pub shows_paths-off : false ≡ list_all (is_source_path arcs sources) lists → false ≡ shows_paths arcs sources targets lists X
  shows_paths-off off =
      sym (and_left (list_all (is_source_path arcs sources) lists) (bytes_eq (map last_of lists) (vertices_of targets X) && are_distinct (concat lists))
      (sym off))

  pub shows_paths-elsewhere : bytes_eq (map last_of lists) (vertices_of targets X) ≡ false → false ≡ shows_paths arcs sources targets lists X
  shows_paths-elsewhere other =
      sym (and_right (list_all (is_source_path arcs sources) lists) (bytes_eq (map last_of lists) (vertices_of targets X) && are_distinct (concat lists))
      (and_left (bytes_eq (map last_of lists) (vertices_of targets X)) (are_distinct (concat lists)) other))

  pub shows_paths-by_vertices : true ≡ list_all (is_source_path arcs sources) lists → bytes_eq (map last_of lists) (vertices_of targets X) ≡ true
      → are_distinct (concat lists) ≡ shows_paths arcs sources targets lists X
  shows_paths-by_vertices on same = rw (← on, same) refl

-- ---- vertices that close others off

-- whether the head of an arc whose tail is reached is in one of the two sets
abbrev pub stays_in_either : List ℕ → List ℕ → ℕ × ℕ → Bool
stays_in_either reached closing arc = not (is_member arc.0 reached) || is_in_either reached closing arc.1

-- the four parts of the test
pub record AreClosedOff (arcs : List (ℕ × ℕ)) (sources ends reached closing : List ℕ) : Type 0 where
  pub apart : list_all (λ v. not (is_member v closing)) reached ≡ true
  pub starts : list_all (is_in_either reached closing) sources ≡ true
  pub heads : list_all (stays_in_either reached closing) arcs ≡ true
  pub missed : list_all (λ v. not (is_member v reached)) ends ≡ true

pub AreClosedOff-gives : (arcs : List (ℕ × ℕ)) (sources ends reached closing : List ℕ)
    → are_closed_off arcs sources ends reached closing ≡ true → AreClosedOff arcs sources ends reached closing
AreClosedOff-gives arcs sources ends reached closing h =
    let a = and_parts (list_all (λ v. not (is_member v closing)) reached) _ h in
    let b = and_parts (list_all (is_in_either reached closing) sources) _ a.1 in
    let c = and_parts (list_all (stays_in_either reached closing) arcs) (list_all (λ v. not (is_member v reached)) ends) b.1 in
    record { apart = a.0; starts = b.0; heads = c.0; missed = c.1 }

head_in_either : (arcs : List (ℕ × ℕ)) (reached closing : List ℕ) (u v : ℕ) → list_all (stays_in_either reached closing) arcs ≡ true
    → is_member u reached ≡ true → has_arc arcs u v ≡ true → is_in_either reached closing v ≡ true
head_in_either [] reached closing u v all m arc = absurd (false≢true arc)
head_in_either (first ∷ arcs) reached closing u v all m arc =
    let a = and_parts (stays_in_either reached closing first) (list_all (stays_in_either reached closing) arcs) all in
    elim (or_cases (eqb first.0 u && eqb first.1 v) (has_arc arcs u v) arc) [
      | inl here ↦ (let p = and_parts (eqb first.0 u) (eqb first.1 v) here in
          let tail = ap (λ z. is_member z reached) (eqb-true first.0 u p.0) ∙ m in
          ap (is_in_either reached closing) (sym (eqb-true first.1 v p.1))
          ∙ ap (λ b. not b || is_in_either reached closing first.1) (sym tail) ∙ a.0)
      | inr later ↦ head_in_either arcs reached closing u v a.1 m later
    ]

module _ (arcs : List (ℕ × ℕ)) (sources ends reached closing : List ℕ) (closed : AreClosedOff arcs sources ends reached closing) where
  -- a path from a vertex of one of the sets meets the closing one
  met_along : (path : List ℕ) → IsPath arcs path → is_in_either reached closing (first_of path) ≡ true → is_member (last_of path) ends ≡ true
      → (v : ℕ) × (is_member v path ≡ true) × (is_member v closing ≡ true)
  met_along [] joined either end = absurd joined
  met_along (v ∷ []) joined either end = elim (or_cases (is_member v reached) (is_member v closing) either) [
    | inl in_reach ↦ absurd (both_ways (is_member v reached)
        (not-true (is_member v reached) (member_passes (λ w. not (is_member w reached)) ends v closed.missed end)) in_reach)
    | inr met ↦ (v, is_member-head v [], met)
  ]
  met_along (v ∷ w ∷ rest) joined either end = elim (or_cases (is_member v reached) (is_member v closing) either) [
    | inl in_reach ↦ (let next = met_along (w ∷ rest) joined.1 (head_in_either arcs reached closing v w closed.heads in_reach joined.0) end in
        (next.0, is_member-tail next.0 v (w ∷ rest) next.1, next.2))
    | inr met ↦ (v, is_member-head v (w ∷ rest), met)
  ]

  pub IsSeparator-closing : (vertices : ℕ) → IsSet vertices closing → IsSeparator arcs sources ends closing
  IsSeparator-closing vertices set = record {
    rises = set.rising;
    meets = λ path p. met_along path p.joined (member_passes (is_in_either reached closing) sources (first_of path) closed.starts p.starts) p.ends;
  }

pub closing_bound_holds : (vertices : ℕ) (arcs : List (ℕ × ℕ)) (sources targets F I reached closing : List ℕ)
    → IsGammoid vertices arcs sources targets → IsSet (length targets) F → IsSet vertices reached → IsSet vertices closing
    → are_closed_off arcs sources (vertices_of targets F) reached closing ≡ true → is_gammoid vertices arcs sources targets I ≡ true
    → IsSubset I F → length I ≤ length closing
closing_bound_holds vertices arcs sources targets F I reached closing given set reach_set closing_set closed h sub =
    let ends = vertices_of targets F in
    let g = is_gammoid-gives vertices arcs sources targets I h in
    let d = for_more arcs sources targets ends I g (λ v m. (let w = vertex_member targets I v m in
    ap (λ z. is_member z ends) (sym w.2) ∙ member_vertex targets F w.0 (sub.inside w.0 w.1))) in
    let few = at_most_a_separator arcs sources ends closing g.paths
    (IsSeparator-closing arcs sources ends reached closing (AreClosedOff-gives arcs sources ends reached closing closed) vertices closing_set)
    (ArePathsApart-disjoint arcs sources ends g.paths d) in
    omega (arith, size_of arcs sources targets I g)
