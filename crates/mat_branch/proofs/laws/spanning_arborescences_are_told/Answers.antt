use Rattle.mat_branch.proofs.Common.{length, ends_of}
use Rattle.mat_branch.proofs.SpanningTests.{spanning_is_told}
use Rattle.mat_branch.proofs.laws.spanning_arborescences_are_told.Goals as goal

pub returns : goal.returns
returns c = λ vertices arcs root tree g below set. spanning_is_told vertices (length arcs) root (ends_of arcs) tree below g.first set
