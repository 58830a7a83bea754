use Rattle.mat_desc.proofs.Common.{◌≡◌, ◌++◌, take, text_of, tree_of, matroid_lines, naming}
use Rattle.std.specs.List.{flat_map}
use Rattle.mat_desc.proofs.write.matroids.+writing.Given as goal

-- the lines of the matroids so far stand there
abbrev pub invariant-put_matroids-loop-matroid : goal.invariant-put_matroids-loop-matroid
invariant-put_matroids-loop-matroid l =
    l.out.items ≡ l.fn.out.items ++ flat_map (λ m. text_of (matroid_lines (naming l.names) (tree_of m))) (take l.matroid-index l.matroids)
