use Rattle.mat_summary.proofs.Common.{◌-◌, length, sym, arith, slice_get_within}
use Rattle.mat_summary.proofs.SummaryTotals.{last_weight-at}
use Rattle.mat_summary.proofs.totals.last_weight.Goals as goal

pub returns-in-Some : goal.returns-in-Some
returns-in-Some c =
    let rungs = c.args.rungs.now in
    let at = sym c.in-Some.ensures.value in
    let inside = slice_get_within rungs (length rungs - 1) c.in-Some.rung.now at in
    last_weight-at rungs (length rungs - 1) c.in-Some.rung.now (omega (arith, inside)) at
