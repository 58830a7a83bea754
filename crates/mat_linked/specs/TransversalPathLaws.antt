-- A partial transversal as disjoint paths: in the graph with a vertex for each element and one for each index of the family, and with an
-- arc from each index to each member of its set, the paths from indices to elements are those along one arc.
use Rattle.std.proofs.Common.{◌≡◌, ℕ, zero, suc, ◌+◌, ◌<◌, true, ◌&&◌, ◌||◌, eqb, List, [], ◌∷◌, length, map, get_or, ◌⊎◌, inl, inr, refl, sym, ap, ◌∙◌, subst, arith}
use Rattle.std.proofs.lemmas.Bool.{and_from, and_parts, both_ways, eq-eqb, eqb-true, false_from_ne_true, false≢true, or_cases, or_left, or_right}
use Rattle.std.proofs.lemmas.Bool.Decides.{nat_tests}
use Rattle.std.proofs.lemmas.List.Elements.{All-cons, All-head, All-nil, All-tail}
use Rattle.std.specs.List.{All, concat}
use Rattle.mat_sets.specs.Sets.{is_member, all_below, counted_from, AllBelow, AreDistinct, IsSet}
use Rattle.mat_sets.proofs.Ground.{AllBelow-member, AreDistinct-rising, RisesFrom-counted_from, get_or-all_below, length-all_below}
use Rattle.mat_sets.proofs.ListParts.{AreDistinct-apart, AreDistinct-rest, is_member-left, is_member-right, is_member-tail}
use Rattle.mat_sets.proofs.Members.{is_member-head, member_from}
use Rattle.mat_flow.specs.Paths.{first_of, has_arc, last_of, AreDisjointPaths, IsPath, IsPathBetween}
use Rattle.mat_linked.specs.Gammoids.{vertices_of, IsLinked}
use Rattle.mat_linked.specs.Transversals.{lie_in_sets, IsPartialTransversal}

-- ---- the graph

-- arcs from u to the members of a set, and further arcs
abbrev pub arcs_to : ℕ → List ℕ → List (ℕ × ℕ) → List (ℕ × ℕ)
arcs_to u [] more = more
arcs_to u (x ∷ set) more = (u, x) ∷ arcs_to u set more

-- arcs from u + j to the members of the set with index j
abbrev pub membership_arcs : ℕ → List (List ℕ) → List (ℕ × ℕ)
membership_arcs u [] = []
membership_arcs u (set ∷ family) = arcs_to u set (membership_arcs (suc u) family)

has_arc-arcs_to : (u : ℕ) (set : List ℕ) (more : List (ℕ × ℕ)) (v x : ℕ)
    → has_arc (arcs_to u set more) v x ≡ ((eqb u v && is_member x set) || has_arc more v x)
has_arc-arcs_to u [] more v x = grind (arith, nat_tests)
has_arc-arcs_to u (y ∷ set) more v x = let rest = has_arc-arcs_to u set more v x in grind (arith, nat_tests)

arc_gives : (u : ℕ) (family : List (List ℕ)) (v x : ℕ) → has_arc (membership_arcs u family) v x ≡ true
    → (j : ℕ) × (v ≡ u + j) × (is_member x (get_or family j []) ≡ true)
arc_gives u [] v x h = absurd (false≢true h)
arc_gives u (set ∷ family) v x h =
    elim (or_cases (eqb u v && is_member x set) _ (sym (has_arc-arcs_to u set (membership_arcs (suc u) family) v x) ∙ h)) [
      | inl here ↦ (let p = and_parts (eqb u v) (is_member x set) here in (0, (let e = eqb-true u v p.0 in omega arith), p.1))
      | inr later ↦ (let w = arc_gives (suc u) family v x later in (suc w.0, (let e = w.1 in omega arith), w.2))
    ]

arc_from : (u : ℕ) (family : List (List ℕ)) (j x : ℕ) → is_member x (get_or family j []) ≡ true
    → has_arc (membership_arcs u family) (u + j) x ≡ true
arc_from u [] j x m = absurd (false≢true m)
arc_from u (set ∷ family) zero x m =
    has_arc-arcs_to u set (membership_arcs (suc u) family) (u + 0) x
    ∙ or_left (eqb u (u + 0) && is_member x set) _ (and_from (eqb u (u + 0)) (is_member x set) (eq-eqb u (u + 0) (omega arith)) m)
arc_from u (set ∷ family) (suc j) x m =
    has_arc-arcs_to u set (membership_arcs (suc u) family) (u + suc j) x
    ∙ or_right (eqb u (u + suc j) && is_member x set) _ (let e : u + suc j ≡ suc u + j = omega arith in rw e (arc_from (suc u) family j x m))

-- an index whose set has a member is one of the family
index_below : (family : List (List ℕ)) (j x : ℕ) → is_member x (get_or family j []) ≡ true → j < length family
index_below [] j x m = absurd (false≢true m)
index_below (set ∷ family) zero x m = omega arith
index_below (set ∷ family) (suc j) x m = let l = index_below family j x m in omega arith

is_member-counted : (lo n j : ℕ) → j < n → is_member (lo + j) (counted_from lo n) ≡ true
is_member-counted lo zero j l = absurd (omega arith)
is_member-counted lo (suc n) zero l = or_left (eqb (lo + 0) lo) _ (eq-eqb (lo + 0) lo (omega arith))
is_member-counted lo (suc n) (suc j) l =
    or_right (eqb (lo + suc j) lo) _ (let e : suc lo + j ≡ lo + suc j = omega arith in
    subst (λ z. is_member z (counted_from (suc lo) n) ≡ true) e (is_member-counted (suc lo) n j (omega arith)))

-- each element is its own vertex
vertices_same : (count : ℕ) (X : List ℕ) → AllBelow count X → vertices_of (all_below count) X ≡ X
vertices_same count [] below = refl
vertices_same count (x ∷ X) below =
    ap (λ v. v ∷ vertices_of (all_below count) X) (get_or-all_below count x 0 below.0) ∙ ap (λ l. x ∷ l) (vertices_same count X below.1)

-- the vertices of the indices
abbrev pub index_vertices : ℕ → List (List ℕ) → List ℕ
index_vertices count family = counted_from count (length family)

module _ (count : ℕ) (family : List (List ℕ)) where
  -- ---- from a partial transversal to paths

  -- a path from the vertex of each index to its element
  paths_along : List ℕ → List ℕ → List (List ℕ)
  paths_along [] indices = []
  paths_along (x ∷ X) [] = []
  paths_along (x ∷ X) (j ∷ indices) = ((count + j) ∷ x ∷ []) ∷ paths_along X indices

  on_paths : (X indices : List ℕ) (v : ℕ) → is_member v (concat (paths_along X indices)) ≡ true
      → (is_member v X ≡ true) ⊎ ((j : ℕ) × (is_member j indices ≡ true) × (v ≡ count + j))
  unfolding paths_along
  on_paths (x ∷ X) (j ∷ indices) v m = elim (or_cases (eqb v (count + j)) (eqb v x || is_member v (concat (paths_along X indices))) m) [
    | inl first ↦ inr (j, is_member-head j indices, eqb-true v (count + j) first)
    | inr other ↦ elim (or_cases (eqb v x) (is_member v (concat (paths_along X indices))) other) [
      | inl last ↦ inl (or_left (eqb v x) (is_member v X) last)
      | inr later ↦ elim (on_paths X indices v later) [
        | inl k ↦ inl (is_member-tail v x X k)
        | inr w ↦ inr (w.0, is_member-tail w.0 j indices w.1, w.2)
      ]
    ]
  ]
  on_paths _ indices v m = absurd (false≢true m)

  paths_along_distinct : (X indices : List ℕ) → AreDistinct X → AllBelow count X → AreDistinct indices
      → AreDistinct (concat (paths_along X indices))
  unfolding paths_along
  paths_along_distinct (x ∷ X) (j ∷ indices) d below e = (
    false_from_ne_true _ (λ m. elim (or_cases (eqb (count + j) x) (is_member (count + j) (concat (paths_along X indices))) m) [
      | inl same ↦ (let q = eqb-true (count + j) x same in let l = below.0 in absurd (omega arith))
      | inr later ↦ elim (on_paths X indices (count + j) later) [
        | inl k ↦ (let l = AllBelow-member count X (count + j) below.1 k in absurd (omega arith))
        | inr w ↦ (let q : w.0 ≡ j = (let s = w.2 in omega arith) in both_ways _ e.0 (ap (λ i. is_member i indices) (sym q) ∙ w.1))
      ]
    ]),
    (
      false_from_ne_true _ (λ m. elim (on_paths X indices x m) [
        | inl k ↦ both_ways _ d.0 k
        | inr w ↦ (let s = w.2 in let l = below.0 in absurd (omega arith))
      ]),
      paths_along_distinct X indices d.1 below.1 e.1,
    ),
  )
  paths_along_distinct _ indices d below e = tt

  last_of-paths_along : (X indices : List ℕ) → lie_in_sets family X indices ≡ true → map last_of (paths_along X indices) ≡ X
  unfolding paths_along
  last_of-paths_along [] indices h = refl
  last_of-paths_along (x ∷ X) [] h = absurd (false≢true h)
  last_of-paths_along (x ∷ X) (j ∷ indices) h =
      ap (λ l. x ∷ l) (last_of-paths_along X indices (and_parts (is_member x (get_or family j [])) (lie_in_sets family X indices) h).1)

  paths_along_each : (targets X indices : List ℕ) → lie_in_sets family X indices ≡ true
      → ((v : ℕ) → is_member v X ≡ true → is_member v targets ≡ true)
      → All (IsPathBetween (membership_arcs count family) (index_vertices count family) targets) (paths_along X indices)
  unfolding paths_along
  paths_along_each targets [] indices h inside = All-nil (IsPathBetween (membership_arcs count family) (index_vertices count family) targets)
  paths_along_each targets (x ∷ X) [] h inside = absurd (false≢true h)
  paths_along_each targets (x ∷ X) (j ∷ indices) h inside =
      let p = and_parts (is_member x (get_or family j [])) (lie_in_sets family X indices) h in
      All-cons (IsPathBetween (membership_arcs count family) (index_vertices count family) targets) ((count + j) ∷ x ∷ []) (paths_along X indices)
      (record {
        joined = (arc_from count family j x p.0, tt);
        starts = is_member-counted count (length family) j (index_below family j x p.0);
        ends = inside x (is_member-head x X);
      })
      (paths_along_each targets X indices p.1 (λ v m. inside v (is_member-tail v x X m)))

  pub IsLinked-transversal : (X : List ℕ) → IsPartialTransversal count family X
      → IsLinked (membership_arcs count family) (index_vertices count family) (all_below count) X
  IsLinked-transversal X t =
      let same = vertices_same count X t.set.below in
      record {
        set = subst (λ n. IsSet n X) (sym (length-all_below count)) t.set;
        paths = paths_along X t.indices;
        disjoint =
            subst (λ targets. AreDisjointPaths (membership_arcs count family) (index_vertices count family) targets (paths_along X t.indices))
            (sym same)
            (record {
              each = paths_along_each X X t.indices t.inside (λ v m. m);
              distinct = paths_along_distinct X t.indices (AreDistinct-rising X t.set.rising) t.set.below t.distinct;
            });
        ends = last_of-paths_along X t.indices t.inside ∙ sym same;
      }

  -- ---- from paths to a partial transversal

  -- the index at whose vertex a path starts
  record StartIndex (path : List ℕ) : Type 0 where
    pub index : ℕ
    pub holds : is_member (last_of path) (get_or family index []) ≡ true
    pub start : is_member (count + index) path ≡ true

  module _ (below : (j x : ℕ) → is_member x (get_or family j []) ≡ true → x < count) where
    -- a path from an index to an element has one arc
    start_index : (path : List ℕ) → IsPath (membership_arcs count family) path
        → is_member (first_of path) (index_vertices count family) ≡ true
        → last_of path < count → StartIndex path
    start_index [] joined starts last = absurd joined
    start_index (v ∷ []) joined starts last =
        absurd (let high = member_from count v (index_vertices count family) (RisesFrom-counted_from count (length family)) starts in omega arith)
    start_index (v ∷ u ∷ []) joined starts last =
        let w = arc_gives count family v u joined.0 in
        record { index = w.0; holds = w.2; start = ap (λ z. is_member z (v ∷ u ∷ [])) (sym w.1) ∙ is_member-head v (u ∷ []) }
    start_index (v ∷ u ∷ t ∷ rest) joined starts last =
        absurd (let a = arc_gives count family v u joined.0 in let b = arc_gives count family u t joined.1.0 in
        let l = below a.0 u a.2 in let s = b.1 in omega arith)

    -- the indices at which paths start
    record StartIndices (paths : List (List ℕ)) : Type 0 where
      pub indices : List ℕ
      pub listed : AllBelow (length family) indices
      pub distinct : AreDistinct indices
      pub holds : lie_in_sets family (map last_of paths) indices ≡ true
      pub starts : (j : ℕ) → is_member j indices ≡ true → is_member (count + j) (concat paths) ≡ true

    start_indices : (targets : List ℕ) (paths : List (List ℕ))
        → All (IsPathBetween (membership_arcs count family) (index_vertices count family) targets) paths → AreDistinct (concat paths)
        → AllBelow count (map last_of paths) → StartIndices paths
    start_indices targets [] each distinct ends = record { indices = []; listed = tt; distinct = tt; holds = refl; starts = λ j m. m }
    start_indices targets (path ∷ paths) each distinct ends =
        let Between = IsPathBetween (membership_arcs count family) (index_vertices count family) targets in
        let p = All-head Between path paths each in
        let s = start_index path p.joined p.starts ends.0 in
        let rest = start_indices targets paths (All-tail Between path paths each) (AreDistinct-rest path (concat paths) distinct) ends.1 in
        record {
          indices = s.index ∷ rest.indices;
          listed = (index_below family s.index (last_of path) s.holds, rest.listed);
          distinct = (
            false_from_ne_true _ (λ m. both_ways _ (AreDistinct-apart path (concat paths) (count + s.index) distinct s.start)
                (rest.starts s.index m)),
            rest.distinct,
          );
          holds =
              and_from (is_member (last_of path) (get_or family s.index [])) (lie_in_sets family (map last_of paths) rest.indices) s.holds rest.holds;
          starts = λ j m. elim (or_cases (eqb j s.index) (is_member j rest.indices) m) [
            | inl same ↦
                is_member-left (count + j) path (concat paths) (ap (λ i. is_member (count + i) path) (eqb-true j s.index same) ∙ s.start)
            | inr later ↦ is_member-right (count + j) path (concat paths) (rest.starts j later)
          ];
        }

    pub IsPartialTransversal-linked : (X : List ℕ)
        → IsLinked (membership_arcs count family) (index_vertices count family) (all_below count) X → IsPartialTransversal count family X
    IsPartialTransversal-linked X g =
        let set : IsSet count X = subst (λ n. IsSet n X) (length-all_below count) g.set in
        let ends : map last_of g.paths ≡ X = g.ends ∙ vertices_same count X set.below in
        let s = start_indices (vertices_of (all_below count) X) g.paths g.disjoint.each g.disjoint.distinct
        (subst (AllBelow count) (sym ends) set.below) in
        record {
          set = set;
          indices = s.indices;
          listed = s.listed;
          distinct = s.distinct;
          inside = ap (λ l. lie_in_sets family l s.indices) (sym ends) ∙ s.holds;
        }
