use Rattle.mat_cuts.proofs.Common.{◌≡◌}
use Rattle.mat_cuts.proofs.Loops.{AreFalling}
use Rattle.mat_cuts.proofs.joining.join.Given as goal

abbrev pub invariant-loop-v : goal.invariant-loop-v
invariant-loop-v l = record {
  falling : AreFalling l.to l.fn.path.last l.fn.path.place.items l.path.place.items l.v;
  last_same : l.path.last ≡ l.fn.path.last;
  fresh_same : l.path.fresh ≡ l.fn.path.fresh;
}
