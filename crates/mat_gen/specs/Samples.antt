-- Problems that are made from a number: element after element, and for each element so many draws one after the other.
use Rattle.std.specs.Prelude.{ℕ, suc, ◌+◌, ◌*◌, ◌/◌, ◌==◌, List, [], ◌∷◌, map, replicate, pos, ◌-ℤ◌}
use Rattle.mat_sets.specs.Search.{those_below}
use Rattle.mat_sets.specs.Sets.{all_below}
use Rattle.mat_sets.specs.declared.weight.Weight.{Weight}
use Rattle.mat_any.specs.Trees.{graphic, partition}
use Rattle.mat_problem.specs.Instances.{Instance, pair, list, graph, rooted, table}
use Rattle.mat_gen.specs.Draws.{draw}
use Rattle.mat_gen.specs.declared.kind.SampleKind.{SampleKind}
use Rattle.mat_gen.specs.declared.kind.SampleKind.TheVariants as kinds

-- for each of n elements a draw below m; each element takes `each` draws, of which this is its draw `from`
abbrev pub numbers_drawn : ℕ → ℕ → ℕ → ℕ → ℕ → List ℕ
numbers_drawn seed n each from m = map (λ e. draw seed (each * e + from) m) (all_below n)

-- two draws below m, of which draw k is the first
abbrev pub pair_drawn : ℕ → ℕ → ℕ → ℕ × ℕ
pair_drawn seed k m = (draw seed k m, draw seed (suc k) m)

-- for each of n elements two draws below m; each element takes `each` draws, and these begin with its draw `from`
abbrev pub pairs_drawn : ℕ → ℕ → ℕ → ℕ → ℕ → List (ℕ × ℕ)
pairs_drawn seed n each from m = map (λ e. pair_drawn seed (each * e + from) m) (all_below n)

-- the weight of a number, where z is the number of the weight 0
abbrev pub weight_of : ℕ → ℕ → Weight
weight_of d z = record { main = pos d -ℤ pos z; tie = pos 0 }

-- the weight of draw k below m
abbrev pub weight_from : ℕ → ℕ → ℕ → ℕ → Weight
weight_from seed k m z = weight_of (draw seed k m) z

-- for each of n elements such a weight, by its draw `from`
abbrev pub weights_from : ℕ → ℕ → ℕ → ℕ → ℕ → ℕ → List Weight
weights_from seed n each from m z = map (λ e. weight_from seed (each * e + from) m z) (all_below n)

-- for each of n elements a weight from -1000 to 1000, by its draw `from`
abbrev pub weights_drawn : ℕ → ℕ → ℕ → ℕ → List Weight
weights_drawn seed n each from = weights_from seed n each from 2001 1000

-- for each of n elements a cost from 0 to 1000, by its draw `from`
abbrev pub costs_drawn : ℕ → ℕ → ℕ → ℕ → List Weight
costs_drawn seed n each from = weights_from seed n each from 1001 0

-- the elements whose class is drawn to be c, where there are q classes
abbrev pub class_drawn : ℕ → ℕ → ℕ → ℕ → List ℕ
class_drawn seed n q c = those_below n (λ e. draw seed (4 * e + 2) q == c)

-- the problem of this kind with n elements
abbrev pub sample_of : SampleKind → ℕ → ℕ → Instance
sample_of kinds.Pair n seed =
    pair (weights_drawn seed n 4 3) (graphic (n / 4 + 2) (pairs_drawn seed n 4 0 (n / 4 + 2)))
    (partition n (map (class_drawn seed n (n / 5 + 1)) (all_below (n / 5 + 1))) (replicate (n / 5 + 1) 1))
sample_of kinds.List n seed =
    list (weights_drawn seed n 5 4)
    (graphic (n / 4 + 2) (pairs_drawn seed n 5 0 (n / 4 + 2)) ∷ graphic (n / 4 + 2) (pairs_drawn seed n 5 2 (n / 4 + 2)) ∷ [])
sample_of kinds.Graph n seed = graph (n / 8 + 2) (pairs_drawn seed n 2 0 (n / 8 + 2))
sample_of kinds.Rooted n seed =
    rooted (n / 4 + 2) 0 (pairs_drawn seed n 3 0 (n / 4 + 2)) (costs_drawn seed n 3 2)
sample_of kinds.Table n seed = table (n / 4 + 1) (n / 4 + 1) (pairs_drawn seed n 3 0 (n / 4 + 1)) (weights_drawn seed n 3 2)
