use Rattle.mat_fronts.proofs.Common.{take, get_or, IsRising, AreLabelsOf}
use Rattle.mat_fronts.proofs.rainbow_search.colours_on.Given as goal

-- the colours of the edges before this place
abbrev pub invariant-loop-e : goal.invariant-loop-e
invariant-loop-e l = record {
  labels : AreLabelsOf (λ e. get_or l.colour_of e 0) (take l.e-index l.e-items) l.colours;
  rises : IsRising l.colours;
}
