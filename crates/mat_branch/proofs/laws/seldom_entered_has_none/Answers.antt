use Rattle.mat_branch.proofs.Common.{length, ends_of}
use Rattle.mat_branch.proofs.Packing.{seldom_entered_has_none as law}
use Rattle.mat_branch.proofs.laws.seldom_entered_has_none.Goals as goal

pub returns : goal.returns
returns c = λ vertices arcs root k trees cut s d. law vertices (length arcs) root (ends_of arcs) k trees cut d s
