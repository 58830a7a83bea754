use Rattle.mat_flow.proofs.Common.{sym, subst, IsReversed}
use Rattle.mat_flow.proofs.linker.Linker.into_reroutes.Goals as goal

pub returns : goal.returns
returns c = λ vertices arcs sources ends graph inside k. record {
  graph = graph;
  inside = inside;
  before = k.before;
  table = k.table;
  turned = subst (IsReversed k.before) (sym c.of_table.ensures) k.turned;
}
