-- The components of a graph as sets of vertices: what a table of the least vertices tells of them, and that their members are vertices.
use Rattle.mat_graphic.proofs.Common.{◌≡◌, ◌∙◌, ℕ, ◌<◌, eqb, List, [], length, get_or, map, sym, subst, ap, arith, All, get_or-map, length-map, AllBelow, IsRising, IsSet-those_below, those_below-same, class_of, components_of, least_reached, roots_of, IsLeastReached}
use Rattle.std.proofs.lemmas.List.Elements.{All-from_get_or}
use Rattle.mat_sets.proofs.MappedLists.{map_same}
use Rattle.mat_graphic.proofs.ComponentCounts.{least_reached-merged, IsLeastReached-unique}

-- the classes of the vertices with the same least vertex are the components
pub components-by_table : (n : ℕ) (ends : ℕ → ℕ × ℕ) (X : List ℕ) (least : ℕ → ℕ) → IsRising X
    → ((v : ℕ) → v < n → IsLeastReached ends X v (least v)) → map (class_of n least) (roots_of n least) ≡ components_of n ends X
components-by_table n ends X least rises found =
    let reached = least_reached ends X in
    let own : (v : ℕ) → v < n → least v ≡ reached v = λ v l.
    sym (least_reached-merged ends X v rises ∙ IsLeastReached-unique ends X v (least v) rises (found v l)) in
    let roots : roots_of n least ≡ roots_of n reached =
    those_below-same n (λ v. eqb (least v) v) (λ v. eqb (reached v) v) (λ v l. ap (λ z. eqb z v) (own v l)) in
    let classes : (r : ℕ) → class_of n least r ≡ class_of n reached r = λ r.
    those_below-same n (λ v. eqb (least v) r) (λ v. eqb (reached v) r) (λ v l. ap (λ z. eqb z r) (own v l)) in
    ap (map (class_of n least)) roots ∙ map_same (class_of n least) (class_of n reached) classes (roots_of n reached)

-- the members of the components are vertices
pub components_of-below : (n : ℕ) (ends : ℕ → ℕ × ℕ) (X : List ℕ) → All (AllBelow n) (components_of n ends X)
components_of-below n ends X =
    let class = class_of n (least_reached ends X) in
    let roots = roots_of n (least_reached ends X) in
    All-from_get_or (AllBelow n) (map class roots) [] (λ i l.
    let inside : i < length roots = (let e = length-map roots class in omega arith) in
    subst (AllBelow n) (sym (get_or-map class roots i 0 [] inside))
    (IsSet-those_below n (λ v. eqb (least_reached ends X v) (get_or roots i 0))).below)
