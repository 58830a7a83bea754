-- Kind trees: what contracts see of any matroid (Schrijver, chapter 39).
use Rattle.std.specs.Prelude.{◌≡◌, ℕ, suc, ◌<◌, ◌^◌, max, Bool, true, false, List, [], ◌∷◌, ◌++◌, length}
use Rattle.mat_sets.specs.Sets.{IsSet}
use Rattle.mat_sets.specs.Graphs.{ends_of, IsGraph}
use Rattle.mat_count.specs.Counts.{is_uniform, is_counted}
use Rattle.mat_count.specs.Partitions.{IsPartition}
use Rattle.mat_count.specs.LaminarMatroids.{IsLaminar}
use Rattle.mat_graphic.specs.Forests.{is_graphic}
use Rattle.mat_gf2.specs.Columns.{IsBinaryMatrix, column_of, is_gf2}
use Rattle.mat_linked.specs.Transversals.{is_transversal, IsFamily}
use Rattle.mat_linked.specs.Gammoids.{is_gammoid, IsGammoid}
use Rattle.mat_minors.specs.Minors.{is_dual, is_truncated, is_restricted, is_contracted}
use Rattle.mat_union.specs.Unions.{union_test}

mutual
  -- a matroid of any kind, as its keyword with numbers, sets and children
  pub data Tree : Type 0 where
    -- the number of elements, and the cap
    uniform : ℕ → ℕ → Tree
    -- the number of elements, the classes, and the cap of each
    partition : ℕ → List (List ℕ) → List ℕ → Tree
    -- the number of elements, the sets of a laminar family, and the cap of each
    laminar : ℕ → List (List ℕ) → List ℕ → Tree
    -- the number of vertices, and the ends of each edge
    graphic : ℕ → List (ℕ × ℕ) → Tree
    -- the number of elements, and the sets of a family
    transversal : ℕ → List (List ℕ) → Tree
    -- the number of vertices, the tail and the head of each arc, the sources, and the vertex of each element
    gammoid : ℕ → List (ℕ × ℕ) → List ℕ → List ℕ → Tree
    -- the number of entries of a column, and the columns as binary numbers
    gf2 : ℕ → List ℕ → Tree
    -- the dual of a matroid
    dual : Tree → Tree
    -- the cap of a truncation, and what is truncated
    truncate : ℕ → Tree → Tree
    -- the elements to which a matroid is restricted, and the matroid
    restrict : List ℕ → Tree → Tree
    -- the elements that are contracted, and the matroid
    contract : List ℕ → Tree → Tree
    -- the matroids on the same elements that are joined
    union : Trees → Tree

  -- some of these, one after the other
  pub data Trees : Type 0 where
    no_trees : Trees
    more_trees : Tree → Trees → Trees

-- how many there are
abbrev pub tree_count : Trees → ℕ
tree_count no_trees = 0
tree_count (more_trees t ts) = suc (tree_count ts)

-- those of a list
abbrev pub trees_from : List Tree → Trees
trees_from [] = no_trees
trees_from (t ∷ ts) = more_trees t (trees_from ts)

abbrev mutual
  -- the number of elements
  pub element_count : Tree → ℕ
  element_count (uniform n cap) = n
  element_count (partition n classes caps) = n
  element_count (laminar n sets caps) = n
  element_count (graphic vertices edges) = length edges
  element_count (transversal n family) = n
  element_count (gammoid vertices arcs sources targets) = length targets
  element_count (gf2 dim columns) = length columns
  element_count (dual t) = element_count t
  element_count (truncate cap t) = element_count t
  element_count (restrict kept t) = element_count t
  element_count (contract away t) = element_count t
  element_count (union ts) = first_count ts

  -- that of the first one, and 0 where there is none
  pub first_count : Trees → ℕ
  first_count no_trees = 0
  first_count (more_trees t ts) = element_count t

abbrev mutual
  -- the test of independence
  pub is_independent : Tree → List ℕ → Bool
  is_independent (uniform n cap) = is_uniform n cap
  is_independent (partition n classes caps) = is_counted n classes caps
  is_independent (laminar n sets caps) = is_counted n sets caps
  is_independent (graphic vertices edges) = is_graphic (length edges) (ends_of edges)
  is_independent (transversal n family) = is_transversal n family
  is_independent (gammoid vertices arcs sources targets) = is_gammoid vertices arcs sources targets
  is_independent (gf2 dim columns) = is_gf2 (length columns) (column_of columns)
  is_independent (dual t) = is_dual (element_count t) (is_independent t)
  is_independent (truncate cap t) = is_truncated cap (is_independent t)
  is_independent (restrict kept t) = is_restricted kept (is_independent t)
  is_independent (contract away t) = is_contracted (element_count t) away (is_independent t)
  is_independent (union ts) = union_test (first_count ts) (tests_of ts)

  -- that of each
  pub tests_of : Trees → List (List ℕ → Bool)
  tests_of no_trees = []
  tests_of (more_trees t ts) = is_independent t ∷ tests_of ts

abbrev mutual
  -- the conditions that the constructors of its matroids set, within the matroid too; the matroids of a union are at least one and fewer than
  -- 2 ^ 32, and all on as many elements
  pub IsSound : Tree → Type 0
  IsSound (uniform n cap) = Unit {0}
  IsSound (partition n classes caps) = IsPartition n classes caps
  IsSound (laminar n sets caps) = IsLaminar n sets caps
  IsSound (graphic vertices edges) = IsGraph vertices edges
  IsSound (transversal n family) = IsFamily n family
  IsSound (gammoid vertices arcs sources targets) = IsGammoid vertices arcs sources targets
  IsSound (gf2 dim columns) = IsBinaryMatrix dim columns
  IsSound (dual t) = IsSound t
  IsSound (truncate cap t) = IsSound t
  IsSound (restrict kept t) = IsSet (element_count t) kept × IsSound t
  IsSound (contract away t) = IsSet (element_count t) away × IsSound t
  IsSound (union ts) = (0 < tree_count ts) × (tree_count ts < 2 ^ 32) × AreSoundOn (first_count ts) ts

  -- sound matroids on n elements
  pub AreSoundOn : ℕ → Trees → Type 0
  AreSoundOn n no_trees = Unit {0}
  AreSoundOn n (more_trees t ts) = IsSound t × (element_count t ≡ n) × AreSoundOn n ts

abbrev mutual
  -- how many matroids stand within one another
  pub depth : Tree → ℕ
  depth (uniform n cap) = 1
  depth (partition n classes caps) = 1
  depth (laminar n sets caps) = 1
  depth (graphic vertices edges) = 1
  depth (transversal n family) = 1
  depth (gammoid vertices arcs sources targets) = 1
  depth (gf2 dim columns) = 1
  depth (dual t) = suc (depth t)
  depth (truncate cap t) = suc (depth t)
  depth (restrict kept t) = suc (depth t)
  depth (contract away t) = suc (depth t)
  depth (union ts) = suc (greatest_depth ts)

  -- the greatest of these, and 0 where there are none
  pub greatest_depth : Trees → ℕ
  greatest_depth no_trees = 0
  greatest_depth (more_trees t ts) = max (depth t) (greatest_depth ts)

-- whether a union stands within a matroid
abbrev pub has_union : Tree → Bool
has_union (dual t) = has_union t
has_union (truncate cap t) = has_union t
has_union (restrict kept t) = has_union t
has_union (contract away t) = has_union t
has_union (union ts) = true
has_union t = false

abbrev mutual
  -- the matroids of a list, where a union stands with its own in its place
  pub flat_trees : Trees → List Tree
  flat_trees no_trees = []
  flat_trees (more_trees t ts) = flat_of t ++ flat_trees ts

  -- those of a union, and another matroid alone
  pub flat_of : Tree → List Tree
  flat_of (union ts) = flat_trees ts
  flat_of t = t ∷ []
