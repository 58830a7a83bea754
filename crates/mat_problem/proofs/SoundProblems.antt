-- The matroids of a problem in range are sound.
use Rattle.std.proofs.Common.{◌≡◌, ◌≤◌, ◌<◌, ◌^◌, ℕ, List, length, sym, subst, arith}
use Rattle.std.specs.List.{All}
use Rattle.std.proofs.lemmas.List.Elements.{All-weaker}
use Rattle.mat_sets.specs.Sets.{IsSet, AllBelow}
use Rattle.mat_sets.specs.Graphs.{IsGraph}
use Rattle.mat_gf2.specs.Columns.{IsBinaryMatrix}
use Rattle.mat_any.specs.Trees.{Tree, Trees, uniform, partition, laminar, graphic, transversal, gammoid}
use Rattle.mat_any.specs.Trees.{gf2, dual, truncate, restrict, contract, union, no_trees, more_trees, tree_count, element_count, first_count, IsSound, AreSoundOn}
use Rattle.mat_sets.specs.Limits.{most_elements}
use Rattle.mat_problem.specs.Limits.{most_digits}
use Rattle.mat_problem.specs.Validity.{IsPairBelow, IsValidTree, IsValidMatroid, AreValidTrees, IsValid}
use Rattle.mat_problem.specs.Instances.{Instance, pair, list, graph}
use Rattle.mat_problem.specs.Soundness.{IsSoundInstance}

-- edges or arcs with both ends among the vertices are those of a graph
pub IsGraph-pairs : (v : ℕ) (edges : List (ℕ × ℕ)) → length edges < 2 ^ 32 → All (IsPairBelow v v) edges → IsGraph v edges
IsGraph-pairs v edges few each = record { first = λ e lt. (each e (0, 0) lt).0; second = λ e lt. (each e (0, 0) lt).1; few = few }

-- a column of so many entries
abbrev pub IsColumn : ℕ → ℕ → Type 0
IsColumn dim column = column < 2 ^ dim

-- columns of so many entries are those of a matrix
pub IsBinaryMatrix-columns : (dim : ℕ) (columns : List ℕ) → 1 ≤ dim → dim ≤ most_digits → length columns < 2 ^ 32
    → All (IsColumn dim) columns → IsBinaryMatrix dim columns
IsBinaryMatrix-columns dim columns some most few each = record { some = some; most = most; below = λ e lt. each e 0 lt; few = few }

-- the first of matroids on n elements has n
first_of : (n : ℕ) (ts : Trees) → 1 ≤ tree_count ts → AreSoundOn n ts → first_count ts ≡ n
first_of n no_trees some sound = absurd (omega arith)
first_of n (more_trees t ts) some sound = sound.1

mutual
  -- a matroid in range is sound
  IsSound-valid : (n : ℕ) (tree : Tree) → n ≤ most_elements → IsValidTree n tree → IsSound tree × (element_count tree ≡ n)
  IsSound-valid n (uniform m cap) few valid = (tt, valid.0)
  IsSound-valid n (partition m classes caps) few valid = (
    record {
      capped = valid.1.as_many;
      inside = subst (λ (k : ℕ). All (AllBelow k) classes) (sym valid.0)
          (All-weaker (IsSet n) (AllBelow n) (λ class set. set.below) classes valid.1.sets);
      disjoint = valid.1.disjoint;
    },
    valid.0,
  )
  IsSound-valid n (laminar m sets caps) few valid = (
    record {
      capped = valid.1.as_many;
      inside = subst (λ (k : ℕ). All (AllBelow k) sets) (sym valid.0)
          (All-weaker (IsSet n) (AllBelow n) (λ set is. is.below) sets valid.1.sets_inside);
      family = valid.1.family;
    },
    valid.0,
  )
  IsSound-valid n (graphic vertices edges) few valid = (IsGraph-pairs vertices edges (omega (arith, valid.0, few)) valid.3, valid.0)
  IsSound-valid n (transversal m family) few valid = (
    record {
      inside = subst (λ (k : ℕ). All (AllBelow k) family) (sym valid.0) (All-weaker (IsSet n) (AllBelow n) (λ set is. is.below) family valid.2);
      few = omega (arith, valid.1);
    },
    valid.0,
  )
  IsSound-valid n (gammoid vertices arcs sources targets) few valid = (
    record {
      graph = IsGraph-pairs vertices arcs (omega (arith, valid.3)) valid.4;
      sources_inside = valid.5;
      targets_inside = valid.6;
      distinct = valid.7;
      few = omega (arith, valid.0, few);
    },
    valid.0,
  )
  IsSound-valid n (gf2 dim columns) few valid = (IsBinaryMatrix-columns dim columns valid.1 valid.2 (omega (arith, valid.0, few)) valid.3, valid.0)
  IsSound-valid n (dual t) few valid = IsSound-valid n t few valid
  IsSound-valid n (truncate cap t) few valid = IsSound-valid n t few valid.1
  IsSound-valid n (restrict kept t) few valid =
      let within = IsSound-valid n t few valid.1 in
      ((subst (λ (k : ℕ). IsSet k kept) (sym within.1) valid.0, within.0), within.1)
  IsSound-valid n (contract away t) few valid =
      let within = IsSound-valid n t few valid.1 in
      ((subst (λ (k : ℕ). IsSet k away) (sym within.1) valid.0, within.0), within.1)
  IsSound-valid n (union ts) few valid =
      let sound = AreSound-valid n ts few valid.2 in
      let first = first_of n ts valid.0 sound in
      ((omega (arith, valid.0), omega (arith, valid.1), subst (λ (k : ℕ). AreSoundOn k ts) (sym first) sound), first)

  AreSound-valid : (n : ℕ) (ts : Trees) → n ≤ most_elements → AreValidTrees n ts → AreSoundOn n ts
  AreSound-valid n no_trees few valid = tt
  AreSound-valid n (more_trees t ts) few valid =
      let here = IsSound-valid n t few valid.0 in
      (here.0, here.1, AreSound-valid n ts few valid.1)

-- each matroid of a problem in range is sound
pub IsSoundInstance-valid : (instance : Instance) → IsValid instance → IsSoundInstance instance
IsSoundInstance-valid (pair weights first second) valid =
    let one = IsSound-valid (length weights) first valid.0.0 valid.1.0 in
    let two = IsSound-valid (length weights) second valid.0.0 valid.2.0 in
    (one.0, one.1, two.0, two.1)
IsSoundInstance-valid (list weights matroids) valid =
    All-weaker (IsValidMatroid (length weights)) (λ tree. IsSound tree × (element_count tree ≡ length weights))
    (λ tree tree_valid. IsSound-valid (length weights) tree valid.0.0 tree_valid.0) matroids valid.3
IsSoundInstance-valid _ valid = tt
