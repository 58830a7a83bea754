-- The parts of a witness as plain data, and which parts a matroid needs.
use Rattle.std.specs.Prelude.{◌≡◌, ℕ, ◌<◌, ◌≤◌, ◌^◌, List, length}
use Rattle.std.specs.List.{All}
use Rattle.mat_sets.specs.Sets.{AllBelow, IsSet}
use Rattle.mat_any.specs.Trees.{Tree, uniform, partition, laminar, graphic, gammoid, gf2}

-- what shows that a set is independent
pub data FreePart : Type 0 where
  -- nothing, where members are counted
  count : FreePart
  -- an edge and a vertex for each member
  forest : List (ℕ × ℕ) → FreePart
  -- a list of vertices for each member
  paths : List (List ℕ) → FreePart
  -- a binary number for each member
  probes : List ℕ → FreePart

-- what shows that the rank of a set is at most a number
pub data BoundPart : Type 0 where
  -- a set of elements, and a set of the numbers of listed sets
  spent : List ℕ → List ℕ → BoundPart
  -- a number for each vertex
  labels : List ℕ → BoundPart
  -- a set of vertices that may be reached, and a set of vertices that close them off
  gate : List ℕ → List ℕ → BoundPart
  -- binary numbers
  zeros : List ℕ → BoundPart

-- a witness: the number of its rung, what shows the rung's set independent in each matroid, and bounds of ranks
pub record WitnessParts : Type 0 where
  pub k : ℕ
  pub first : FreePart
  pub second : FreePart
  pub bounds : List BoundPart

-- a part of the kind of this matroid on n elements, for a set of k members, with its numbers in range
abbrev pub IsFreeFor : ℕ → ℕ → Tree → FreePart → Type 0
IsFreeFor n k (uniform m cap) count = Unit {0}
IsFreeFor n k (partition m classes caps) count = Unit {0}
IsFreeFor n k (laminar m sets caps) count = Unit {0}
IsFreeFor n k (graphic vertices edges) (forest pairs) = (length pairs ≡ k) × All (λ pair. (pair.0 < n) × (pair.1 < vertices)) pairs
IsFreeFor n k (gammoid vertices arcs sources targets) (paths lists) =
    (length lists ≡ k) × All (λ path. (0 < length path) × AllBelow vertices path) lists
IsFreeFor n k (gf2 dim columns) (probes numbers) = (length numbers ≡ k) × All (λ probe. probe < 2 ^ dim) numbers
IsFreeFor n k tree part = ⊥

-- a set of elements and a set of the numbers of listed sets, where there are n and as many as these
pub record AreSpent (n sets : ℕ) (elements chosen : List ℕ) : Type 0 where
  pub elements_inside : IsSet n elements
  pub chosen_inside : IsSet sets chosen

-- a part of the kind of this matroid on n elements, with its numbers in range
abbrev pub IsBoundFor : ℕ → Tree → BoundPart → Type 0
IsBoundFor n (uniform m cap) (spent elements chosen) = AreSpent n 1 elements chosen
IsBoundFor n (partition m classes caps) (spent elements chosen) = AreSpent n (length classes) elements chosen
IsBoundFor n (laminar m sets caps) (spent elements chosen) = AreSpent n (length sets) elements chosen
IsBoundFor n (graphic vertices edges) (labels numbers) = (length numbers ≡ vertices) × AllBelow vertices numbers
IsBoundFor n (gammoid vertices arcs sources targets) (gate reached closing) = IsSet vertices reached × IsSet vertices closing
IsBoundFor n (gf2 dim columns) (zeros numbers) = (length numbers ≤ dim) × All (λ zero. zero < 2 ^ dim) numbers
IsBoundFor n tree part = ⊥
