use Rattle.mat_cuts.proofs.Common.{◌≡◌, suc, length}
use Rattle.mat_cuts.proofs.Trees.{IsGrowing}
use Rattle.mat_cuts.proofs.growing.grow.Given as goal

abbrev pub invariant-loop : goal.invariant-loop
invariant-loop l = record {
  grows : IsGrowing l.vertices l.arcs l.costs l.root l.raised.cuts.items l.reached l.tree;
  size : suc (length l.tree) ≡ l.counter;
}
