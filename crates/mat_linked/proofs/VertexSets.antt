-- How many vertices elements have.
use Rattle.mat_linked.proofs.Common.{◌≡◌, ℕ, List, length, get_or, length-map, vertices_of}

pub length-vertices_of : (targets elements : List ℕ) → length (vertices_of targets elements) ≡ length elements
length-vertices_of targets elements = length-map elements (λ e. get_or targets e 0)
