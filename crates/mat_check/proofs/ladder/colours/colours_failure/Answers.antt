use Rattle.mat_check.proofs.Common.{ℕ, get_or, length, subst, sym, AllBelow, is_member, not, those_below, IsSet-those_below}
use Rattle.mat_check.proofs.ladder.colours.colours_failure.Goals as goal

pub component_count-requires-clause-below : goal.component_count-requires-clause-below
component_count-requires-clause-below c =
    let other = λ (e : ℕ). not (is_member (get_or c.args.colour_of.now e 0) c.in-Some.colours) in
    subst (λ s. AllBelow (length c.args.edges.now) s) (sym c.in_ok-rest.ensures)
    (subst (λ n. AllBelow n (those_below (length c.args.colour_of.now) other)) c.requires.long (IsSet-those_below (length c.args.colour_of.now) other).below)
