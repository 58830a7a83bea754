-- Disjoint paths to the vertices of an independent set, in the order of the set: there are as many as members, they end at different vertices,
-- so one ends at each. A table has the place of each path at its end.
use Rattle.mat_witness.proofs.Common.{◌≡◌, ◌≢◌, ℕ, zero, suc, ◌+◌, ◌<◌, ◌≤◌, Bool, true, false, ◌&&◌, cond, eqb, List, [], ◌∷◌, length, map, get_or, set, reverse, inl, inr, refl, sym, ap, ◌∙◌, subst, arith, get_or-set_other, get_or-set_same, and_from, both_ways, cases_lt, eq-eqb, eqb-true, ne_eqb}
use Rattle.mat_witness.proofs.Common.{length-map, reverse-reverse, All-weaker, list_all-from_AllPass, bytes_eq-Decides, is_member, union, AllBelow, AreDistinct, IsRising, IsSet, are_distinct, length-items, AllBelow-from_members, AllBelow-member, AllBelow-subset, length-distinct, is_member-get_or}
use Rattle.mat_witness.proofs.Common.{is_member-union, place_of_member, IsRising-nil, IsRising-union, are_distinct-from, length-subset, same_size_subset, AllBelow-at, or_none, first_of, last_of, AreDisjointPaths, IsLinking, IsPath, IsPathBetween, ends_are_targets, gammoid_laws, is_gammoid, is_path}
use Rattle.mat_witness.proofs.Common.{vertices_of, IsGammoid, vertex_member, AreDistinct-vertices_of, is_path-from, path_below, length-vertices_of, shows_paths, path_to}
use Rattle.std.specs.List.{All, concat, list_all}
use Rattle.std.specs.Str.{bytes_eq}
use Rattle.mat_flow.proofs.PathFamilyLaws.{AreDisjointPaths-routes, AreDistinct-ends, AreRoutes-paths, ends_of, is_member-ends_of, last_of-paths_to, paths_to, route_to}
use Rattle.mat_linked.proofs.LinkedAnswers.{is_gammoid-counted}
use Rattle.mat_witness.proofs.PathParts.{is_source_path}

-- ---- places

-- different items stand at different places
items_differ : (xs : List ℕ) (i j : ℕ) → AreDistinct xs → i < j → j < length xs → get_or xs i 0 ≢ get_or xs j 0
items_differ [] i j d before inside same = absurd (omega arith)
items_differ (x ∷ xs) i zero d before inside same = absurd (omega arith)
items_differ (x ∷ xs) zero (suc j) d before inside same = both_ways (is_member x xs) d.0 (is_member-get_or xs j x (omega arith) (sym same))
items_differ (x ∷ xs) (suc i) (suc j) d before inside same = items_differ xs i j d.1 (omega arith) (omega arith) same

pub places_more : (ends places : List ℕ) (i : ℕ) → AreDistinct ends → i < length ends → get_or ends i 0 < length places
    → ((k : ℕ) → k < i → get_or places (get_or ends k 0) 0 ≡ k)
    → (k : ℕ) → k < i + 1 → get_or (set places (get_or ends i 0) i) (get_or ends k 0) 0 ≡ k
places_more ends places i d inside within before k l = elim (cases_lt k i) [
  | inl earlier ↦ get_or-set_other places (get_or ends i 0) (get_or ends k 0) i 0 (items_differ ends k i d earlier inside) ∙ before k earlier
  | inr last ↦ (let same : k ≡ i = omega arith in
      ap (λ j. get_or (set places (get_or ends i 0) i) (get_or ends j 0) 0) same ∙ get_or-set_same places (get_or ends i 0) i 0 within ∙ sym same)
]

path_at : (paths : List (List ℕ)) (j : ℕ) → AreDistinct (map last_of paths) → j < length paths
    → get_or paths j [] ≡ path_to paths (get_or (map last_of paths) j 0)
path_at [] j d inside = absurd (omega arith)
path_at (path ∷ paths) zero d inside = rw (eq-eqb (last_of path) (last_of path) refl) refl
path_at (path ∷ paths) (suc j) d inside =
    let v = get_or (map last_of paths) j 0 in
    let other : eqb v (last_of path) ≡ false = ne_eqb v (last_of path) (λ same. both_ways (is_member (last_of path) (map last_of paths)) d.0
    (is_member-get_or (map last_of paths) j (last_of path) (omega (arith, length-map paths last_of)) same)) in
    path_at paths j d.1 (omega arith) ∙ ap (λ b. cond b path (path_to paths v)) (sym other)

-- the place of the path to a vertex at which one ends
pub place_of_path : (paths : List (List ℕ)) (places : List ℕ) → AreDistinct (map last_of paths)
    → ((k : ℕ) → k < length (map last_of paths) → get_or places (get_or (map last_of paths) k 0) 0 ≡ k)
    → (v : ℕ) → is_member v (map last_of paths) ≡ true
    → (get_or places v 0 < length paths) × (get_or paths (get_or places v 0) [] ≡ path_to paths v)
place_of_path paths places d at v m =
    let p = place_of_member v (map last_of paths) m in
    let here : get_or places v 0 ≡ p.0 = ap (λ u. get_or places u 0) (sym p.2) ∙ at p.0 p.1 in
    let inside : p.0 < length paths = omega (arith, p.1, length-map paths last_of) in
    (omega arith, ap (λ j. get_or paths j []) here ∙ path_at paths p.0 d inside ∙ ap (path_to paths) p.2)

-- ---- the path to a vertex, and the route back

path_to-route : (paths : List (List ℕ)) (v : ℕ) → path_to paths v ≡ reverse (route_to paths v)
path_to-route [] v = refl
path_to-route (path ∷ paths) v = by_cases (eqb v (last_of path)) (path_to-route paths v)
  where
    by_cases : (b : Bool) → path_to paths v ≡ reverse (route_to paths v)
        → cond b path (path_to paths v) ≡ reverse (cond b (reverse path) (route_to paths v))
    by_cases true later = sym (reverse-reverse path)
    by_cases false later = later

paths_by_routes : (paths : List (List ℕ)) (vs : List ℕ) → map (path_to paths) vs ≡ paths_to (route_to paths) vs
paths_by_routes paths [] = refl
paths_by_routes paths (v ∷ vs) =
    ap (λ path. path ∷ map (path_to paths) vs) (path_to-route paths v) ∙ ap (λ rest. reverse (route_to paths v) ∷ rest) (paths_by_routes paths vs)

-- ---- the vertices of a path

some_vertices : (arcs : List (ℕ × ℕ)) (path : List ℕ) → IsPath arcs path → 0 < length path
some_vertices arcs [] joined = absurd joined
some_vertices arcs (v ∷ path) joined = omega arith

-- ---- the ends of the paths to the vertices of a set

-- the set of the vertices of the members
pub is_member-ends : (targets X : List ℕ) {vs ends : List ℕ} → vs ≡ vertices_of targets X → ends ≡ union vs []
    → (v : ℕ) → is_member v ends ≡ is_member v (vertices_of targets X)
is_member-ends targets X {vs} {ends} is made v =
    ap (is_member v) made ∙ is_member-union v vs [] ∙ or_none (is_member v vs) ∙ ap (is_member v) is

pub ends_inside : {vertices : ℕ} {arcs : List (ℕ × ℕ)} {sources targets X vs ends : List ℕ} → IsGammoid vertices arcs sources targets
    → IsSet (length targets) X → vs ≡ vertices_of targets X → ends ≡ union vs [] → AllBelow vertices ends
ends_inside {vertices} {arcs} {sources} {targets} {X} {vs} {ends} given set is made = AllBelow-from_members vertices ends (λ v m.
    (let w = vertex_member targets X v (sym (is_member-ends targets X is made v) ∙ m) in
    subst (λ u. u < vertices) w.2
    (AllBelow-at vertices targets w.0 given.targets_inside (AllBelow-member (length targets) X w.0 set.below w.1))))

-- ---- the paths to the vertices of an independent set

-- paths of which one ends at the vertex of each member of X: in the order of the members they show that X is independent
pub record AreLinkedTo (vertices : ℕ) (arcs : List (ℕ × ℕ)) (sources targets X : List ℕ) (paths : List (List ℕ)) : Type 0 where
  pub some : All (λ path. 0 < length path) paths
  pub below : AllBelow vertices (map last_of paths)
  pub distinct : AreDistinct (map last_of paths)
  pub ended : (v : ℕ) → is_member v (vertices_of targets X) ≡ true → is_member v (map last_of paths) ≡ true
  pub count : length (map (path_to paths) (vertices_of targets X)) ≡ length X
  pub ranged : All (λ path. (0 < length path) × AllBelow vertices path) (map (path_to paths) (vertices_of targets X))
  pub shows : shows_paths arcs sources targets (map (path_to paths) (vertices_of targets X)) X ≡ true

module _ {vertices : ℕ} {arcs : List (ℕ × ℕ)} {sources targets : List ℕ} (given : IsGammoid vertices arcs sources targets) (X : List ℕ)
    (ok : is_gammoid vertices arcs sources targets X ≡ true) where
  pub independent_set : IsSet (length targets) X
  independent_set = (gammoid_laws vertices arcs sources targets given).sets X ok

  module _ {vs ends : List ℕ} (is : vs ≡ vertices_of targets X) (made : ends ≡ union vs []) where
    abbrev members : (v : ℕ) → is_member v ends ≡ is_member v (vertices_of targets X)
    members = is_member-ends targets X is made

    module _ {paths : List (List ℕ)} {separator : List ℕ} (rises : IsRising ends) (linking : IsLinking arcs sources ends paths separator) where
      ends_distinct : AreDistinct (map last_of paths)
      ends_distinct = AreDistinct-ends arcs sources ends paths linking.disjoint

      ended : (v : ℕ) → is_member v (map last_of paths) ≡ true → is_member v ends ≡ true
      ended = ends_are_targets arcs sources ends paths linking.disjoint.each

      count : length paths ≡ length X
      count = eqb-true (length paths) (length X)
          (is_gammoid-counted vertices arcs sources targets given X ends independent_set rises members paths separator linking ∙ ok)

      all_ended : (v : ℕ) → is_member v (vertices_of targets X) ≡ true → is_member v (map last_of paths) ≡ true
      all_ended v m =
          let vs = vertices_of targets X in
          let inside = length-subset ends (union vs []) rises (IsRising-union vs [] IsRising-nil)
          (record { inside = λ w k. is_member-union w vs [] ∙ or_none (is_member w vs) ∙ sym (members w) ∙ k }) in
          let few : length ends ≤ length (ends_of paths) = omega (
            arith,
            inside,
            length-items vs,
            length-vertices_of targets X,
            count,
            length-distinct (map last_of paths) ends_distinct,
            length-map paths last_of,
          ) in
          let same = same_size_subset (ends_of paths) ends (IsRising-union (map last_of paths) [] IsRising-nil) rises
          (record { inside = λ w k. ended w (sym (is_member-ends_of w paths) ∙ k) }) few in
          sym (is_member-ends_of v paths) ∙ ap (is_member v) same ∙ members v ∙ m

      abbrev ordered : List (List ℕ)
      ordered = map (path_to paths) (vertices_of targets X)

      among : (v : ℕ) → is_member v (vertices_of targets X) ≡ true → is_member v (ends_of paths) ≡ true
      among v m = is_member-ends_of v paths ∙ all_ended v m

      ordered_disjoint : AreDisjointPaths arcs sources ends ordered
      ordered_disjoint =
          subst (AreDisjointPaths arcs sources ends) (sym (paths_by_routes paths (vertices_of targets X)))
          (AreDisjointPaths-routes arcs sources ends (AreRoutes-paths arcs sources ends paths linking.disjoint) (vertices_of targets X)
          (AreDistinct-vertices_of targets X given.distinct independent_set) among)

      ordered_ends : map last_of ordered ≡ vertices_of targets X
      ordered_ends =
          ap (map last_of) (paths_by_routes paths (vertices_of targets X))
          ∙ last_of-paths_to (AreRoutes-paths arcs sources ends paths linking.disjoint) (vertices_of targets X) among

      ordered_shows : shows_paths arcs sources targets ordered X ≡ true
      ordered_shows =
          and_from (list_all (is_source_path arcs sources) ordered) (bytes_eq (map last_of ordered) (vertices_of targets X) && are_distinct (concat ordered))
          (list_all-from_AllPass (is_source_path arcs sources) ordered
          (All-weaker (IsPathBetween arcs sources ends) (λ path. is_source_path arcs sources path ≡ true)
          (λ path p. and_from (is_path arcs path) (is_member (first_of path) sources) (is_path-from arcs path p.joined) p.starts) ordered
          ordered_disjoint.each))
          (and_from (bytes_eq (map last_of ordered) (vertices_of targets X)) (are_distinct (concat ordered))
          ((bytes_eq-Decides (map last_of ordered) (vertices_of targets X)).1 ordered_ends)
          (are_distinct-from (concat ordered) ordered_disjoint.distinct))

      pub linked_to : AreLinkedTo vertices arcs sources targets X paths
      linked_to = record {
        some = All-weaker (IsPathBetween arcs sources ends) (λ path. 0 < length path) (λ path p. some_vertices arcs path p.joined) paths
            linking.disjoint.each;
        below = AllBelow-subset vertices (map last_of paths) ends (record { inside = ended })
            (ends_inside given independent_set is made);
        distinct = ends_distinct;
        ended = all_ended;
        count = length-map (vertices_of targets X) (path_to paths) ∙ length-vertices_of targets X;
        ranged = All-weaker (IsPathBetween arcs sources ends) (λ path. (0 < length path) × AllBelow vertices path)
            (λ path p. (
              some_vertices arcs path p.joined,
              path_below vertices arcs given.graph path p.joined
                  (AllBelow-member vertices sources (first_of path) given.sources_inside.below p.starts),
            )) ordered ordered_disjoint.each;
        shows = ordered_shows;
      }
