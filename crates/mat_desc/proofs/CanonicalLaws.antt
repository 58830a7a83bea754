-- The canonical text of a problem in range spells it: a set in rising order lists its own members. So two problems that are spelled are
-- equal exactly where their canonical texts are. With names for its elements and its vertices its text spells it with these names.
use Rattle.mat_desc.proofs.Common.{codes, ◌≡◌, ◌↔◌, ℕ, List, [], ◌∷◌, ◌++◌, length, map, refl, sym, ap, subst, arith, append_assoc, All-head, All-tail, IsSet, AreDistinct-rising, Line, Tree, Trees, partition, laminar, transversal, gammoid, dual, truncate, restrict, contract, union, no_trees}
use Rattle.mat_desc.proofs.Common.{more_trees, Instance, pair, list, rooted, end_line, Naming, Notation, numbers, names, element_naming, IsNotationFor, NamedInstance, Lists, listing_line, CappedLines, FamilyLines, MatroidLines, MatroidsLines, TreeLines, InstanceLines, Spells, SpellsNamed}
use Rattle.mat_desc.proofs.Common.{IsValidTree, IsValidMatroid, AreValidTrees, IsValid, capped_lines, matroid_lines, tree_lines, canonical_lines, canonical_text, named_text}
use Rattle.std.specs.List.{All, flat_map}
use Rattle.mat_desc.proofs.ProblemLaws.{one_problem}

-- a set lists its own members
set_lists : (n : ℕ) (set : List ℕ) → IsSet n set → Lists set set
set_lists n set is = record { distinct = AreDistinct-rising set is.rising; members = λ x. refl }

-- the lines of the sets with their caps, by their keyword
capped_lines_spelled : (naming : Naming) (key : List ℕ) (n : ℕ) (sets : List (List ℕ)) (caps : List ℕ) (rest : List Line)
    → length caps ≡ length sets → All (IsSet n) sets → CappedLines naming key sets caps (capped_lines naming key sets caps ++ rest) rest
capped_lines_spelled naming key n [] [] rest same in_range = refl
capped_lines_spelled naming key n [] (cap ∷ caps) rest same in_range = absurd (omega arith)
capped_lines_spelled naming key n (set ∷ sets) [] rest same in_range = absurd (omega arith)
capped_lines_spelled naming key n (set ∷ sets) (cap ∷ caps) rest same in_range = (
  set,
  capped_lines naming key sets caps ++ rest,
  set_lists n set (All-head (IsSet n) set sets in_range),
  refl,
  capped_lines_spelled naming key n sets caps rest (omega arith) (All-tail (IsSet n) set sets in_range),
)

-- the lines of the sets of a family
family_lines_spelled : (naming : Naming) (n : ℕ) (family : List (List ℕ)) (rest : List Line) → All (IsSet n) family
    → FamilyLines naming family (map (listing_line naming (codes "set")) family ++ rest) rest
family_lines_spelled naming n [] rest in_range = refl
family_lines_spelled naming n (set ∷ family) rest in_range = (
  set,
  map (listing_line naming (codes "set")) family ++ rest,
  set_lists n set (All-head (IsSet n) set family in_range),
  refl,
  family_lines_spelled naming n family rest (All-tail (IsSet n) set family in_range),
)

mutual
  matroid_spelled : (naming : Naming) (n : ℕ) (tree : Tree) (rest : List Line) → IsValidTree n tree
      → MatroidLines naming tree (matroid_lines naming tree ++ rest) rest
  matroid_spelled naming n (partition m classes caps) rest valid = (
    capped_lines naming (codes "class") classes caps ++ rest,
    refl,
    capped_lines_spelled naming (codes "class") n classes caps rest valid.1.as_many valid.1.sets,
  )
  matroid_spelled naming n (laminar m sets caps) rest valid = (
    capped_lines naming (codes "set") sets caps ++ rest,
    refl,
    capped_lines_spelled naming (codes "set") n sets caps rest valid.1.as_many valid.1.sets_inside,
  )
  matroid_spelled naming n (transversal m family) rest valid = (
    map (listing_line naming (codes "set")) family ++ rest,
    refl,
    family_lines_spelled naming n family rest valid.2,
  )
  matroid_spelled naming n (gammoid vertices arcs sources targets) rest valid = (sources, set_lists vertices sources valid.5, refl)
  matroid_spelled naming n (dual t) rest valid = (matroid_lines naming t ++ rest, refl, matroid_spelled naming n t rest valid)
  matroid_spelled naming n (truncate cap t) rest valid = (matroid_lines naming t ++ rest, refl, matroid_spelled naming n t rest valid.1)
  matroid_spelled naming n (restrict kept t) rest valid =
      (kept, matroid_lines naming t ++ rest, set_lists n kept valid.0, refl, matroid_spelled naming n t rest valid.1)
  matroid_spelled naming n (contract away t) rest valid =
      (away, matroid_lines naming t ++ rest, set_lists n away valid.0, refl, matroid_spelled naming n t rest valid.1)
  matroid_spelled naming n (union ts) rest valid = (tree_lines naming ts ++ rest, refl, trees_spelled naming n ts rest valid.2)
  matroid_spelled naming n _ rest valid = refl

  trees_spelled : (naming : Naming) (n : ℕ) (ts : Trees) (rest : List Line) → AreValidTrees n ts
      → TreeLines naming ts (tree_lines naming ts ++ rest) rest
  trees_spelled naming n no_trees rest valid = refl
  trees_spelled naming n (more_trees t ts) rest valid =
      let behind = tree_lines naming ts ++ rest in (
        behind,
        subst (λ (ls : List Line). MatroidLines naming t ls behind)
            (sym (append_assoc (matroid_lines naming t) (tree_lines naming ts) rest)) (matroid_spelled naming n t behind valid.0),
        trees_spelled naming n ts rest valid.1,
      )

matroids_spelled : (naming : Naming) (n : ℕ) (matroids : List Tree) (rest : List Line) → All (IsValidMatroid n) matroids
    → MatroidsLines naming matroids (flat_map (matroid_lines naming) matroids ++ rest) rest
matroids_spelled naming n [] rest valid = refl
matroids_spelled naming n (matroid ∷ matroids) rest valid =
    let behind = flat_map (matroid_lines naming) matroids ++ rest in
    let here = matroid_spelled naming n matroid behind (All-head (IsValidMatroid n) matroid matroids valid).0 in (
      behind,
      subst (λ (ls : List Line). MatroidLines naming matroid ls behind)
          (sym (append_assoc (matroid_lines naming matroid) (flat_map (matroid_lines naming) matroids) rest)) here,
      matroids_spelled naming n matroids rest (All-tail (IsValidMatroid n) matroid matroids valid),
    )

lines_spelled : (notation : Notation) (instance : Instance) → IsValid instance → InstanceLines notation instance (canonical_lines notation instance)
lines_spelled notation (pair weights first second) valid =
    let naming = element_naming notation in
    let behind = matroid_lines naming second ++ end_line ∷ [] in
    let here = matroid_spelled naming (length weights) first behind valid.1.0 in (
      (matroid_lines naming first ++ matroid_lines naming second) ++ end_line ∷ [],
      behind,
      refl,
      subst (λ (ls : List Line). MatroidLines naming first ls behind)
          (sym (append_assoc (matroid_lines naming first) (matroid_lines naming second) (end_line ∷ []))) here,
      matroid_spelled naming (length weights) second (end_line ∷ []) valid.2.0,
    )
lines_spelled notation (list weights matroids) valid = (
  flat_map (matroid_lines (element_naming notation)) matroids ++ end_line ∷ [],
  refl,
  matroids_spelled (element_naming notation) (length weights) matroids (end_line ∷ []) valid.3,
)
lines_spelled numbers (rooted vertices root arcs costs) valid = refl
lines_spelled notation _ valid = refl

-- the canonical text of a problem spells it
pub canonical_spelled : (instance : Instance) → IsValid instance → Spells (canonical_text instance) instance
unfolding canonical_text
canonical_spelled instance valid = record {
  valid = valid;
  notation = numbers;
  notated = (tt, tt);
  lines = canonical_lines numbers instance;
  spelled = lines_spelled numbers instance valid;
  whole = refl;
}

-- the canonical text of a problem with names spells it with these
pub named_spelled : (problem : NamedInstance) → IsValid problem.instance → IsNotationFor problem.instance (names problem.elements problem.vertices)
    → SpellsNamed (named_text problem) problem
unfolding named_text
named_spelled problem valid notated =
    let notation = names problem.elements problem.vertices in
    record {
      spells = record {
        valid = valid;
        notation = notation;
        notated = notated;
        lines = canonical_lines notation problem.instance;
        spelled = lines_spelled notation problem.instance valid;
        whole = refl;
      };
      named = refl;
    }

-- problems that are spelled are equal where their canonical texts are
pub canonical_equal : (s t : List ℕ) (p q : Instance) → Spells s p → Spells t q → (p ≡ q) ↔ (canonical_text p ≡ canonical_text q)
canonical_equal s t p q first second = (
  λ e. ap canonical_text e,
  λ e. one_problem (canonical_text p) p q (canonical_spelled p first.valid)
      (subst (λ (text : List ℕ). Spells text q) (sym e) (canonical_spelled q second.valid)),
)
