use Rattle.mat_cuts.proofs.Common.{length, ends_of}
use Rattle.mat_sets.proofs.Crossings.{arborescence_enters as law}
use Rattle.mat_cuts.proofs.laws.arborescence_enters.Goals as goal

pub returns : goal.returns
returns c = λ vertices arcs root tree set s f. law (ends_of arcs) vertices (length arcs) root tree set s f
