-- The kinds of matroids whose answers have witnesses, and the sets that the counted ones of them list (Schrijver, chapter 39).
use Rattle.std.specs.Prelude.{ℕ, Bool, true, false, ◌&&◌, nat_lt, List, [], ◌∷◌, length}
use Rattle.mat_sets.specs.Sets.{all_below}
use Rattle.mat_any.specs.Trees.{Tree, uniform, partition, laminar, graphic, gammoid, gf2}
use Rattle.mat_problem.specs.Instances.{Instance, pair}
use Rattle.mat_cert.specs.Certificates.{Certificate, intersect}

-- whether a matroid is of a witnessed kind: uniform, partition, laminar, graphic, gammoid or linear over the field of two elements
abbrev pub is_witnessed : Tree → Bool
is_witnessed (uniform n cap) = true
is_witnessed (partition n classes caps) = true
is_witnessed (laminar n sets caps) = true
is_witnessed (graphic vertices edges) = true
is_witnessed (gammoid vertices arcs sources targets) = true
is_witnessed (gf2 dim columns) = true
is_witnessed tree = false

-- whether a problem is one of two matroids of witnessed kinds
abbrev pub is_witnessed_pair : Instance → Bool
is_witnessed_pair (pair w first second) = is_witnessed first && is_witnessed second
is_witnessed_pair instance = false

-- whether an answer is one to `intersect` that has this rung
abbrev pub has_rung : Certificate → ℕ → Bool
has_rung (intersect n rungs cut) k = nat_lt k (length rungs)
has_rung answer k = false

-- the sets that a counted matroid lists; a uniform one lists the set of all elements
abbrev pub listed_sets : Tree → List (List ℕ)
listed_sets (uniform n cap) = all_below n ∷ []
listed_sets (partition n classes caps) = classes
listed_sets (laminar n sets caps) = sets
listed_sets tree = []

-- the cap of each
abbrev pub listed_caps : Tree → List ℕ
listed_caps (uniform n cap) = cap ∷ []
listed_caps (partition n classes caps) = caps
listed_caps (laminar n sets caps) = caps
listed_caps tree = []
