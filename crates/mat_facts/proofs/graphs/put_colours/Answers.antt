use Rattle.mat_facts.proofs.Common.{ℕ, get_or, length, not, subst, sym, is_member, IsSet-those_below}
use Rattle.mat_sets.specs.Search.{those_below}
use Rattle.mat_sets.specs.Sets.{AllBelow}
use Rattle.mat_facts.proofs.graphs.put_colours.Goals as goal

pub component_count-requires-clause-below : goal.component_count-requires-clause-below
component_count-requires-clause-below c =
    let other = λ (e : ℕ). not (is_member (get_or c.args.colour_of.now e 0) c.in-Some.colours) in
    subst (λ s. AllBelow (length c.args.graph.now.edges) s) (sym c.in_ok-rest.ensures)
    (subst (λ n. AllBelow n (those_below (length c.args.colour_of.now) other)) c.requires.long (IsSet-those_below (length c.args.colour_of.now) other).below)
