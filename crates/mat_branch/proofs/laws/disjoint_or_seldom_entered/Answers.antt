use Rattle.mat_branch.proofs.Common.{length, ends_of}
use Rattle.mat_branch.proofs.Packing.{disjoint_or_seldom_entered as law}
use Rattle.mat_branch.proofs.laws.disjoint_or_seldom_entered.Goals as goal

pub returns : goal.returns
returns c = λ vertices arcs root k g below. law vertices (length arcs) root (ends_of arcs) k below g.first
