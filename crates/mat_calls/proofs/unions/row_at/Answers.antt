use Rattle.std.proofs.Common.{subst, sym}
use Rattle.std.proofs.lemmas.Result.{IfOk-weaker}
use Rattle.mat_sets.specs.Sets.{IsSubset}
use Rattle.mat_count.specs.Counts.{is_uniform}
use Rattle.mat_laws.specs.declared.exchange.Exchange.{Exchange}
use Rattle.mat_calls.proofs.TwoParts.{row_inside}
use Rattle.mat_calls.proofs.unions.row_at.Goals as goal

pub returns : goal.returns
returns c = IfOk-weaker c.circuit.result _ _
    (λ e h. subst (λ (r : Exchange). IsSubset r.with c.args.part.now) (sym h) (row_inside (is_uniform c.new-matroid.result.count c.new-matroid.result.cap) c.args.part.now c.args.x)) c.circuit.ensures.row
