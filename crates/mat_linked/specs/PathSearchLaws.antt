-- The search for disjoint paths, one to each vertex of a list, finds some exactly where there are any: a path without repetition has at
-- most as many vertices as the graph, so it is among the lists that are tried.
use Rattle.std.proofs.Common.{◌≡◌, ℕ, suc, ◌<◌, Bool, true, false, ◌&&◌, eqb, List, [], ◌∷◌, ◌++◌, length, map, inl, inr, refl, sym, ap, ◌∙◌, arith}
use Rattle.std.proofs.lemmas.Bool.{and_from, and_parts, both_ways, eq-eqb, eqb-true, false_from_ne_true, false≢true, or_cases, or_parts}
use Rattle.std.proofs.lemmas.List.Elements.{All-cons, All-head, All-nil, All-tail}
use Rattle.std.specs.List.{All, concat}
use Rattle.mat_sets.specs.Graphs.{IsGraph}
use Rattle.mat_sets.specs.Search.{some_list}
use Rattle.mat_sets.specs.Sets.{is_member, AllBelow, AreDistinct}
use Rattle.mat_sets.proofs.Ground.{AllBelow-member, length-distinct_below}
use Rattle.mat_sets.proofs.ListParts.{AreDistinct-append, AreDistinct-apart, AreDistinct-front, AreDistinct-rest, is_member-left, is_member-right, is_member-tail}
use Rattle.mat_sets.proofs.Members.{is_member-append, is_member-head}
use Rattle.mat_sets.proofs.Search.{some_below_from, some_below_gives, some_list_from, some_list_gives}
use Rattle.mat_flow.specs.Paths.{first_of, has_arc, last_of, IsPath, IsPathBetween}
use Rattle.mat_flow.proofs.Rows.{head_below}
use Rattle.mat_linked.specs.Gammoids.{has_paths_to, is_path}
use Rattle.mat_sets.specs.SetTests.{are_distinct}
use Rattle.mat_sets.proofs.SetTests.{are_distinct-from, are_distinct-gives}

-- ---- tests of one list

pub is_path-gives : (arcs : List (ℕ × ℕ)) (path : List ℕ) → is_path arcs path ≡ true → IsPath arcs path
is_path-gives arcs [] h = absurd (false≢true h)
is_path-gives arcs (v ∷ []) h = tt
is_path-gives arcs (v ∷ w ∷ rest) h =
    let a = and_parts (has_arc arcs v w) (is_path arcs (w ∷ rest)) h in
    (a.0, is_path-gives arcs (w ∷ rest) a.1)

pub is_path-from : (arcs : List (ℕ × ℕ)) (path : List ℕ) → IsPath arcs path → is_path arcs path ≡ true
is_path-from arcs [] joined = absurd joined
is_path-from arcs (v ∷ []) joined = refl
is_path-from arcs (v ∷ w ∷ rest) joined =
    and_from (has_arc arcs v w) (is_path arcs (w ∷ rest)) joined.0 (is_path-from arcs (w ∷ rest) joined.1)

-- ---- the vertices of a path

pub path_below : (vertices : ℕ) (arcs : List (ℕ × ℕ)) → IsGraph vertices arcs → (path : List ℕ) → IsPath arcs path
    → first_of path < vertices
    → AllBelow vertices path
path_below vertices arcs g [] joined first = absurd joined
path_below vertices arcs g (v ∷ []) joined first = (first, tt)
path_below vertices arcs g (v ∷ w ∷ rest) joined first =
    (first, path_below vertices arcs g (w ∷ rest) joined.1 (head_below vertices arcs v w g.second joined.0))

-- ---- five tests at once

five_parts : (a b c d e : Bool) → (a && b && c && d && e) ≡ true → (a ≡ true) × (b ≡ true) × (c ≡ true) × (d ≡ true) × (e ≡ true)
five_parts true true true true e h = (refl, refl, refl, refl, h)
five_parts _ b c d e h = absurd (false≢true h)

five_from : (a b c d e : Bool) → a ≡ true → b ≡ true → c ≡ true → d ≡ true → e ≡ true → (a && b && c && d && e) ≡ true
five_from a b c d e p q r s t = rw (p, q, r, s, t) refl

-- ---- disjoint paths

module _ (vertices : ℕ) (arcs : List (ℕ × ℕ)) (sources : List ℕ) where
  -- disjoint paths for some targets, one to each of these vertices, on which none of the taken vertices stands
  pub record PathsBeside (targets taken ends : List ℕ) : Type 0 where
    pub paths : List (List ℕ)
    pub each : All (IsPathBetween arcs sources targets) paths
    pub distinct : AreDistinct (concat paths)
    pub free : (v : ℕ) → is_member v (concat paths) ≡ true → is_member v taken ≡ false
    pub ends_are : map last_of paths ≡ ends

  -- what the search tries for the first of the vertices
  abbrev is_next : List ℕ → ℕ → List ℕ → List ℕ → Bool
  is_next taken end ends path = is_path arcs path && is_member (first_of path) sources && eqb (last_of path) end
      && are_distinct (path ++ taken) && has_paths_to vertices arcs sources (path ++ taken) ends

  one_path : (targets taken : List ℕ) (end : ℕ) (ends path : List ℕ) → is_member end targets ≡ true → IsPath arcs path
      → is_member (first_of path) sources ≡ true → last_of path ≡ end → AreDistinct (path ++ taken)
      → PathsBeside targets (path ++ taken) ends
      → PathsBeside targets taken (end ∷ ends)
  one_path targets taken end ends path target joined starts last distinct rest = record {
    paths = path ∷ rest.paths;
    each = All-cons (IsPathBetween arcs sources targets) path rest.paths
        (record { joined = joined; starts = starts; ends = ap (λ v. is_member v targets) last ∙ target }) rest.each;
    distinct = AreDistinct-append path (concat rest.paths) (AreDistinct-front path taken distinct) rest.distinct
        (λ v m. false_from_ne_true _ (λ k. both_ways _ (rest.free v k) (is_member-left v path taken m)));
    free = λ v m. elim (or_cases (is_member v path) _ (sym (is_member-append v path (concat rest.paths)) ∙ m)) [
      | inl here ↦ AreDistinct-apart path taken v distinct here
      | inr later ↦ (or_parts (is_member v path) (is_member v taken) (sym (is_member-append v path taken) ∙ rest.free v later)).1
    ];
    ends_are = ap (λ v. v ∷ map last_of rest.paths) last ∙ ap (λ l. end ∷ l) rest.ends_are;
  }

  pub has_paths_to-gives : (targets taken ends : List ℕ) → ((v : ℕ) → is_member v ends ≡ true → is_member v targets ≡ true)
      → has_paths_to vertices arcs sources taken ends ≡ true → PathsBeside targets taken ends
  unfolding has_paths_to
  has_paths_to-gives targets taken [] inside h = record {
    paths = [];
    each = All-nil (IsPathBetween arcs sources targets);
    distinct = tt;
    free = λ v m. absurd (false≢true m);
    ends_are = refl;
  }
  has_paths_to-gives targets taken (end ∷ ends) inside h =
      let k = some_below_gives (suc vertices) (λ k. some_list k vertices (is_next taken end ends)) h in
      let p = some_list_gives k.0 vertices (is_next taken end ends) k.2 in
      let path = p.0 in
      let a = five_parts (is_path arcs path) (is_member (first_of path) sources) (eqb (last_of path) end) (are_distinct (path ++ taken))
      (has_paths_to vertices arcs sources (path ++ taken) ends) p.3 in
      one_path targets taken end ends path (inside end (is_member-head end ends)) (is_path-gives arcs path a.0) a.1
      (eqb-true (last_of path) end a.2) (are_distinct-gives (path ++ taken) a.3)
      (has_paths_to-gives targets (path ++ taken) ends (λ v m. inside v (is_member-tail v end ends m)) a.4)

  module _ (graph : IsGraph vertices arcs) (sources_below : AllBelow vertices sources) where
    pub has_paths_to-from : (targets taken : List ℕ) (paths : List (List ℕ)) → All (IsPathBetween arcs sources targets) paths
        → AreDistinct (concat paths) → AreDistinct taken → ((v : ℕ) → is_member v (concat paths) ≡ true → is_member v taken ≡ false)
        → has_paths_to vertices arcs sources taken (map last_of paths) ≡ true
    unfolding has_paths_to
    has_paths_to-from targets taken [] each distinct before free = refl
    has_paths_to-from targets taken (path ∷ paths) each distinct before free =
        let p = All-head (IsPathBetween arcs sources targets) path paths each in
        let own = AreDistinct-front path (concat paths) distinct in
        let below = path_below vertices arcs graph path p.joined (AllBelow-member vertices sources (first_of path) sources_below p.starts) in
        let both = AreDistinct-append path taken own before (λ v m. free v (is_member-left v path (concat paths) m)) in
        let rest = has_paths_to-from targets (path ++ taken) paths (All-tail (IsPathBetween arcs sources targets) path paths each)
        (AreDistinct-rest path (concat paths) distinct) both
        (λ v m. apart v (free v (is_member-right v path (concat paths) m))
        (false_from_ne_true _ (λ k. both_ways _ (AreDistinct-apart path (concat paths) v distinct k) m))) in
        let few = length-distinct_below vertices path own below in
        some_below_from (suc vertices) (length path) (λ k. some_list k vertices (is_next taken (last_of path) (map last_of paths))) (omega arith)
        (some_list_from vertices path (is_next taken (last_of path) (map last_of paths)) below
        (five_from _ _ _ _ _ (is_path-from arcs path p.joined) p.starts (eq-eqb (last_of path) (last_of path) refl)
        (are_distinct-from (path ++ taken) both) rest))
      where
        apart : (v : ℕ) → is_member v taken ≡ false → is_member v path ≡ false → is_member v (path ++ taken) ≡ false
        apart v a b = is_member-append v path taken ∙ rw b a
