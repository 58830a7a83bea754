-- The lines of a union, whose matroids are the items of a list.
use Rattle.mat_desc.proofs.Common.{◌≡◌, suc, List, [], ◌∷◌, ◌++◌, length, pos, refl, ap, ◌∙◌, codes, numeral, Line, Tree, union, tree_count, trees_from, Naming, matroid_lines, tree_lines}
use Rattle.std.specs.List.{flat_map}

count_from : (trees : List Tree) → tree_count (trees_from trees) ≡ length trees
count_from [] = refl
count_from (t ∷ trees) = ap suc (count_from trees)

lines_from : (naming : Naming) (trees : List Tree) → tree_lines naming (trees_from trees) ≡ flat_map (matroid_lines naming) trees
lines_from naming [] = refl
lines_from naming (t ∷ trees) = ap (λ (ls : List Line). matroid_lines naming t ++ ls) (lines_from naming trees)

pub union_lines : (naming : Naming) (trees : List Tree)
    → matroid_lines naming (union (trees_from trees))
    ≡ (codes "union" ∷ numeral (pos (length trees)) ∷ []) ∷ flat_map (matroid_lines naming) trees
union_lines naming trees = ap (λ k. (codes "union" ∷ numeral (pos k) ∷ []) ∷ tree_lines naming (trees_from trees)) (count_from trees)
    ∙ ap (λ (ls : List Line). (codes "union" ∷ numeral (pos (length trees)) ∷ []) ∷ ls) (lines_from naming trees)
