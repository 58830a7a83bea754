use Rattle.mat_facts.proofs.Common.{◌∙◌, length, ap, subst, sym, eqb, get_or, ends_of, ◌<◌}
use Rattle.std.specs.Prelude.{◌^◌}
use Rattle.mat_sets.specs.Search.{those_below}
use Rattle.mat_check.proofs.CountedComponents.{components_counted}
use Rattle.mat_facts.proofs.graphs.component_count.Goals as goal

pub least_vertices-requires : goal.least_vertices-requires
least_vertices-requires c =
    record { few = subst (λ n. n < 2 ^ 32) (sym (ap length c.deref.ensures.value ∙ c.in_ok-least.ensures.long)) c.requires.few_vertices }

pub returns : goal.returns
returns c =
    c.len.ensures.count ∙ ap length c.in_ok-roots.ensures
    ∙ ap (λ xs. length (those_below (length xs) (λ v. eqb (get_or xs v 0) v))) c.deref.ensures.value
    ∙ components_counted c.args.graph.now.vertices (ends_of c.args.graph.now.edges) c.args.set.now c.in_ok-least.least.items
    c.rises.ensures c.in_ok-least.ensures.long c.in_ok-least.ensures.least
