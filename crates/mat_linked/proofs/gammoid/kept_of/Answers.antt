use Rattle.mat_linked.proofs.Common.{set_of_vertices}
use Rattle.mat_linked.proofs.gammoid.kept_of.Goals as goal

pub returns : goal.returns
returns c = λ vertices arcs targets base is k. record {
  reroutes = k;
  next_ends = c.in_ok-next_ends.ensures vertices arcs (set_of_vertices targets base) is k;
}
