use Rattle.mat_arbor.proofs.Common.{unentered_has_none}
use Rattle.mat_arbor.proofs.laws.unentered_has_no_arborescence.Goals as goal

pub returns : goal.returns
returns c = λ vertices arcs root U unentered X spans. unentered_has_none vertices arcs root U X unentered spans
