use Rattle.mat_fronts.proofs.Common.{◌≡◌, not, get_or, is_member}
use Rattle.mat_sets.specs.Search.{those_below}
use Rattle.mat_fronts.proofs.colours.edges_without.Given as goal

-- the edges of other colours before edge e
abbrev pub invariant-loop-e : goal.invariant-loop-e
invariant-loop-e l = l.rest ≡ those_below l.e (λ e. not (is_member (get_or l.colour_of e 0) l.colours))
