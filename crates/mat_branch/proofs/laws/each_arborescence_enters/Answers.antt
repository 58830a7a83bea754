use Rattle.mat_branch.proofs.Common.{length, ends_of}
use Rattle.mat_branch.proofs.Packing.{each_enters}
use Rattle.mat_branch.proofs.laws.each_arborescence_enters.Goals as goal

pub returns : goal.returns
returns c = λ vertices arcs root k trees d cut free. each_enters vertices (length arcs) root (ends_of arcs) k trees d cut free
