-- What is written with names: the number of the names bounds the numbers that are written.
use Rattle.mat_desc.proofs.Common.{◌≡◌, ℕ, ◌<◌, List, [], ◌∷◌, length, map, get_or, Some, None, ap, subst, ◌∙◌, arith, IfSome, All, get_or-map, length-map, All-nil, All-cons, Tree, trees_from, tree_of, AnyMatroid, IsValidTree, AreValidTrees, Naming}

-- what follows from a fact of the number of the names
pub where_named : (naming : Naming) (P Q : ℕ → Type 0) → ((n : ℕ) → P n → Q n) → IfSome naming (λ listed. P (length listed))
    → IfSome naming (λ listed. Q (length listed))
where_named None P Q follows fact = tt
where_named (Some listed) P Q follows fact = follows (length listed) fact

-- the matroids of a union
pub parts_valid : (n : ℕ) (trees : List Tree) → AreValidTrees n (trees_from trees) → All (IsValidTree n) trees
parts_valid n [] valid = All-nil (IsValidTree n)
parts_valid n (tree ∷ trees) valid = All-cons (IsValidTree n) tree trees valid.0 (parts_valid n trees valid.1)

-- one of some matroids
pub part_valid : (n : ℕ) (matroids : List AnyMatroid) (i : ℕ) (matroid : AnyMatroid) → i < length matroids → get_or matroids i matroid ≡ matroid
    → All (IsValidTree n) (map tree_of matroids) → IsValidTree n (tree_of matroid)
part_valid n matroids i matroid inside at all =
    subst (IsValidTree n) (get_or-map tree_of matroids i matroid (tree_of matroid) inside ∙ ap tree_of at)
    (all i (tree_of matroid) (omega (arith, inside, length-map matroids tree_of)))
