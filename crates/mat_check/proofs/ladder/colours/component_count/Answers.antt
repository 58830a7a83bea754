use Rattle.mat_check.proofs.Common.{◌∙◌, ◌<◌, ℕ, List, eqb, get_or, length, ap, subst, sym, ends_of, those_below, IsLeastReached, Graphic}
use Rattle.mat_check.proofs.CountedComponents.{components_counted}
use Rattle.mat_check.proofs.ladder.colours.component_count.Goals as goal

pub returns : goal.returns
returns c =
    let vertices = ap (λ (m : Graphic). m.vertices) c.in_ok-graphic.ensures.value in
    let edges = ap (λ (m : Graphic). m.edges) c.in_ok-graphic.ensures.value ∙ c.in_ok-copy.ensures in
    let least = c.in_ok-least.least.items in
    let found : (v : ℕ) → v < c.args.vertices → IsLeastReached (ends_of c.args.edges.now) c.args.set.now v (get_or least v 0) = λ v l.
    subst (λ (es : List (ℕ × ℕ)). IsLeastReached (ends_of es) c.args.set.now v (get_or least v 0)) edges
    (c.in_ok-least.ensures.least v (subst (λ n. v < n) (sym vertices) l)) in
    c.len.ensures.count ∙ ap length c.in_ok-roots.ensures
    ∙ ap (λ xs. length (those_below (length xs) (λ v. eqb (get_or xs v 0) v))) c.deref.ensures.value
    ∙ components_counted c.args.vertices (ends_of c.args.edges.now) c.args.set.now least c.rises.ensures (c.in_ok-least.ensures.long ∙ vertices) found
