-- The number of components is that of the vertices which are the least of theirs, as the search for components tells these.
use Rattle.mat_check.proofs.Common.{◌≡◌, ℕ, ◌<◌, eqb, List, length, get_or, sym, ap, ◌∙◌, arith, those_below, IsRising, length-those_below, IsLeastReached, least_reached, number_of_components}
use Rattle.mat_graphic.proofs.ComponentCounts.{IsLeastReached-unique, least_reached-merged}

pub components_counted : (vertices : ℕ) (ends : ℕ → ℕ × ℕ) (X least : List ℕ) → IsRising X → length least ≡ vertices
    → ((v : ℕ) → v < vertices → IsLeastReached ends X v (get_or least v 0))
    → length (those_below (length least) (λ v. eqb (get_or least v 0) v)) ≡ number_of_components vertices ends X
unfolding number_of_components
components_counted vertices ends X least rises long found =
    let same : (v : ℕ) → v < vertices → least_reached ends X v ≡ get_or least v 0 =
    λ v l. least_reached-merged ends X v rises ∙ IsLeastReached-unique ends X v (get_or least v 0) rises (found v l) in
    let fewer = length-those_below vertices (λ v. eqb (get_or least v 0) v) (λ v. eqb (least_reached ends X v) v)
    (λ v l own. ap (λ z. eqb z v) (same v l) ∙ own) in
    let more = length-those_below vertices (λ v. eqb (least_reached ends X v) v) (λ v. eqb (get_or least v 0) v)
    (λ v l own. ap (λ z. eqb z v) (sym (same v l)) ∙ own) in
    ap (λ m. length (those_below m (λ v. eqb (get_or least v 0) v))) long ∙ omega (arith, fewer, more)
