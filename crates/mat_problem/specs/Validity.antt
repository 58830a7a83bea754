-- Which problems may be stated.
use Rattle.std.specs.Prelude.{◌≡◌, ℕ, ◌≤◌, ◌^◌, List, ◌<◌, length, All}
use Rattle.mat_sets.specs.Sets.{IsSet, AllBelow, AreDistinct}
use Rattle.mat_sets.specs.declared.weight.Weight.{Weight}
use Rattle.mat_sets.specs.Weights.{IsWeightWithin}
use Rattle.mat_sets.specs.Families.{AreDisjoint}
use Rattle.mat_count.specs.Laminar.{IsLaminarFamily}
use Rattle.mat_any.specs.Trees.{Tree, Trees, uniform, partition, laminar, graphic, transversal, gammoid, gf2, dual, truncate, restrict, contract, union, no_trees, more_trees, tree_count, depth}
use Rattle.mat_problem.specs.Limits.{most_sets, most_arcs, most_digits, deepest}
use Rattle.mat_sets.specs.Limits.{largest_weight, most_vertices, most_elements, most_matroids}
use Rattle.mat_problem.specs.Instances.{Instance, pair, list, graph, rooted, coloured, table}

-- the classes of a partition of n elements with their caps
pub record AreClasses (n : ℕ) (classes : List (List ℕ)) (caps : List ℕ) : Type 0 where
  pub few : length classes ≤ most_sets
  pub as_many : length caps ≡ length classes
  pub caps_small : All (λ cap. cap ≤ most_elements) caps
  pub sets : All (IsSet n) classes
  pub disjoint : AreDisjoint classes

-- the sets of a laminar family on n elements with their caps
pub record AreNestedSets (n : ℕ) (sets : List (List ℕ)) (caps : List ℕ) : Type 0 where
  pub few : length sets ≤ most_sets
  pub as_many : length caps ≡ length sets
  pub caps_small : All (λ cap. cap ≤ most_elements) caps
  pub sets_inside : All (IsSet n) sets
  pub family : IsLaminarFamily sets

-- the first number of the pair is below the first bound, and the second below the second
abbrev pub IsPairBelow : ℕ → ℕ → ℕ × ℕ → Type 0
IsPairBelow first_bound second_bound ends = (ends.0 < first_bound) × (ends.1 < second_bound)

abbrev mutual
  -- a matroid on n elements whose numbers and lists are in range
  pub IsValidTree : ℕ → Tree → Type 0
  IsValidTree n (uniform m cap) = (m ≡ n) × (cap ≤ most_elements)
  IsValidTree n (partition m classes caps) = (m ≡ n) × AreClasses n classes caps
  IsValidTree n (laminar m sets caps) = (m ≡ n) × AreNestedSets n sets caps
  IsValidTree n (graphic vertices edges) = (length edges ≡ n) × (1 ≤ vertices) × (vertices ≤ most_vertices)
      × All (IsPairBelow vertices vertices) edges
  IsValidTree n (transversal m family) = (m ≡ n) × (length family ≤ most_sets) × All (IsSet n) family
  IsValidTree n (gammoid vertices arcs sources targets) = (length targets ≡ n) × (1 ≤ vertices) × (vertices ≤ most_vertices)
      × (length arcs ≤ most_arcs) × All (IsPairBelow vertices vertices) arcs × IsSet vertices sources × AllBelow vertices targets × AreDistinct targets
  IsValidTree n (gf2 dim columns) = (length columns ≡ n) × (1 ≤ dim) × (dim ≤ most_digits) × All (λ column. column < 2 ^ dim) columns
  IsValidTree n (dual t) = IsValidTree n t
  IsValidTree n (truncate cap t) = (cap ≤ most_elements) × IsValidTree n t
  IsValidTree n (restrict kept t) = IsSet n kept × IsValidTree n t
  IsValidTree n (contract away t) = IsSet n away × IsValidTree n t
  IsValidTree n (union ts) = (1 ≤ tree_count ts) × (tree_count ts ≤ most_matroids) × AreValidTrees n ts

  -- such matroids
  pub AreValidTrees : ℕ → Trees → Type 0
  AreValidTrees n no_trees = Unit {0}
  AreValidTrees n (more_trees t ts) = IsValidTree n t × AreValidTrees n ts

-- a matroid of a problem with n elements: it is in range, and at most 16 matroids stand within one another, the outermost one counted
abbrev pub IsValidMatroid : ℕ → Tree → Type 0
IsValidMatroid n tree = IsValidTree n tree × (depth tree ≤ deepest)

-- a weight or a cost
abbrev pub IsWeight : Weight → Type 0
IsWeight w = IsWeightWithin largest_weight w

-- the weights of no more elements than there may be
abbrev pub AreWeights : List Weight → Type 0
AreWeights weights = (length weights ≤ most_elements) × All IsWeight weights

-- at most 500 edges, arcs or cells, the two numbers of each below the two bounds
abbrev pub ArePairs : ℕ → ℕ → List (ℕ × ℕ) → Type 0
ArePairs first_bound second_bound pairs = (length pairs ≤ most_elements) × All (IsPairBelow first_bound second_bound) pairs

-- a problem whose numbers and lists are in range
abbrev pub IsValid : Instance → Type 0
IsValid (pair weights first second) = AreWeights weights × IsValidMatroid (length weights) first × IsValidMatroid (length weights) second
IsValid (list weights matroids) = AreWeights weights × (1 ≤ length matroids) × (length matroids ≤ most_matroids)
    × All (IsValidMatroid (length weights)) matroids
IsValid (graph vertices edges) = (1 ≤ vertices) × (vertices ≤ most_vertices) × ArePairs vertices vertices edges
IsValid (rooted vertices root arcs costs) = (1 ≤ vertices) × (vertices ≤ most_vertices) × (root < vertices)
    × ArePairs vertices vertices arcs × (length costs ≡ length arcs) × All IsWeight costs
IsValid (coloured vertices colours edges colour_of weights) = (1 ≤ vertices) × (vertices ≤ most_vertices) × (colours ≤ most_sets)
    × ArePairs vertices vertices edges × (length colour_of ≡ length edges) × All (λ colour. colour < colours) colour_of
    × (length weights ≡ length edges) × All IsWeight weights
IsValid (table rows columns cells weights) = (rows ≤ most_sets) × (columns ≤ most_sets) × ArePairs rows columns cells
    × (length weights ≡ length cells) × All IsWeight weights
