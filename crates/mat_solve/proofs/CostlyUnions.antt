-- The rows of a union, by the list of its matroids.
use Rattle.mat_solve.proofs.Common.{Global, Vec, ◌≡◌, suc, ◌||◌, leb, List, [], ◌∷◌, length, refl, ap, ◌∙◌, tree_count, tree_of, has_costly_rows, some_have_costly_rows}
use Rattle.std.specs.List.{list_any}
use Rattle.mat_any.specs.Joined.{trees_in}
use Rattle.mat_any.specs.declared.any.AnyMatroid.{AnyMatroid, Union}
use Rattle.mat_any.proofs.JoinedMatroids.{node}

count_listed : (ms : List AnyMatroid) → tree_count (trees_in ms) ≡ length ms
count_listed [] = refl
count_listed (m ∷ ms) = ap suc (count_listed ms)

some_listed : (ms : List AnyMatroid) → some_have_costly_rows (trees_in ms) ≡ list_any (λ m. has_costly_rows (tree_of m)) ms
some_listed [] = refl
some_listed (m ∷ ms) = ap (λ b. has_costly_rows (tree_of m) || b) (some_listed ms)

pub costly_union : (m : AnyMatroid) (parts : Vec AnyMatroid Global) (ms : List AnyMatroid) → m ≡ Union parts → ms ≡ parts.items
    → has_costly_rows (tree_of m) ≡ (leb 16 (length ms) || list_any (λ m. has_costly_rows (tree_of m)) ms)
costly_union m parts ms is same =
    ap has_costly_rows (node m parts ms is same) ∙ ap (λ k. leb 16 k || some_have_costly_rows (trees_in ms)) (count_listed ms)
    ∙ ap (λ b. leb 16 (length ms) || b) (some_listed ms)
