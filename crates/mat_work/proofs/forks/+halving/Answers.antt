-- The rows of the lower half and those of the upper half behind them stand from the first number on.
use Rattle.std.proofs.Common.{◌≡◌, ◌+◌, ◌-◌, ◌/◌, length, arith}
use Rattle.std.proofs.lemmas.Result.{IfOk-at_ok}
use Rattle.mat_work.specs.Rows.{StandFrom}
use Rattle.mat_work.proofs.StandingRows.{StandFrom_both}
use Rattle.mat_work.proofs.forks.+halving.Goals as goal

pub returns-clause-rows : goal.returns-clause-rows
returns-clause-rows g t c =
    let stands = g.J.RowJob.stands c.args.job.now in
    let low = c.args.count / 2 in
    let middle = c.args.from + low in
    let halves = c.join-lower_rows.ensures in
    StandFrom_both stands c.args.from low middle _ _ _ c.in_ok-append.ensures.items (omega arith)
    (IfOk-at_ok (λ v. (length v.items ≡ low) × StandFrom stands c.args.from v.items) c.in_ok-rows.was halves.first)
    (IfOk-at_ok (λ v. (length v.items ≡ c.args.count - low) × StandFrom stands middle v.items) c.in_ok-rest.was halves.second).1
