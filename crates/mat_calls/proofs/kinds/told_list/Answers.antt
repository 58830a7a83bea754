use Rattle.std.proofs.Common.{◌<◌, length, get_or, map, sym, subst, arith}
use Rattle.std.proofs.lemmas.List.{length-map, get_or-map}
use Rattle.mat_any.specs.Trees.{IsSound}
use Rattle.mat_any.specs.Views.{tree_of}
use Rattle.mat_calls.proofs.kinds.told_list.Goals as goal

pub told_each-requires : goal.told_each-requires
told_each-requires c = λ k d lt.
    let matroids = c.in-List.matroids.items in
    let sound = rw c.in-List.is at c.requires in
    let here : k < length matroids = subst (λ l. k < length l) c.deref.ensures.value lt in
    let small : k < length (map tree_of matroids) = omega (arith, here, length-map matroids tree_of) in
    subst (λ l. IsSound (tree_of (get_or l k d))) (sym c.deref.ensures.value)
    (subst IsSound (get_or-map tree_of matroids k d (tree_of d) here) (sound k (tree_of d) small).0)
