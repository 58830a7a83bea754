use Rattle.mat_reasons.proofs.Common.{◌≡◌, ◌∙◌, ℕ, ◌<◌, List, not, length, get_or, map, sym, ap, subst, All, ends_of, those_below, is_member, AllBelow}
use Rattle.mat_sets.proofs.Search.{IsSet-those_below}
use Rattle.mat_graphic.specs.Forests.{class_of, components_of, roots_of, IsLeastReached}
use Rattle.mat_graphic.proofs.ComponentSets.{components-by_table, components_of-below}
use Rattle.mat_reasons.proofs.components.left_groups.Goals as goal

pub components-requires-clause-below : goal.components-requires-clause-below
components-requires-clause-below c =
    let count = length c.args.colour_of.now in
    let other = λ (e : ℕ). not (is_member (get_or c.args.colour_of.now e 0) c.args.colours.now) in
    subst (λ s. AllBelow (length c.args.graph.now.edges) s) (sym c.in_ok-rest.ensures)
    (subst (λ n. AllBelow n (those_below count other)) c.requires.long (IsSet-those_below count other).below)

pub returns-clause-components : goal.returns-clause-components
returns-clause-components c =
    let vertices = c.args.graph.now.vertices in
    let ends = ends_of c.args.graph.now.edges in
    let count = length c.args.colour_of.now in
    let other = λ (e : ℕ). not (is_member (get_or c.args.colour_of.now e 0) c.args.colours.now) in
    let table = c.in_ok-least.least.items in
    let found : (v : ℕ) → v < vertices → IsLeastReached ends (those_below count other) v (get_or table v 0) = λ v l.
    subst (λ (rest : List ℕ). IsLeastReached ends rest v (get_or table v 0)) c.in_ok-rest.ensures (c.in_ok-least.ensures.least v l) in
    c.in_ok-groups.ensures ∙ ap (λ L. map (class_of (length L) (λ v. get_or L v 0)) (roots_of (length L) (λ v. get_or L v 0))) c.deref.ensures.value
    ∙ ap (λ n. map (class_of n (λ v. get_or table v 0)) (roots_of n (λ v. get_or table v 0))) c.in_ok-least.ensures.long
    ∙ components-by_table vertices ends (those_below count other) (λ v. get_or table v 0) (IsSet-those_below count other).rising found

pub returns-clause-below : goal.returns-clause-below
returns-clause-below c =
    let vertices = c.args.graph.now.vertices in
    let ends = ends_of c.args.graph.now.edges in
    let count = length c.args.colour_of.now in
    let other = λ (e : ℕ). not (is_member (get_or c.args.colour_of.now e 0) c.args.colours.now) in
    let told : c.in_ok-groups.groups.items ≡ components_of vertices ends (those_below count other) = returns-clause-components c in
    subst (All (AllBelow vertices)) (sym told) (components_of-below vertices ends (those_below count other))
