-- Each half has fewer rows than the whole, and its closure stands between the two.
use Rattle.std.proofs.Common.{◌+◌, ◌*◌}
use Rattle.mat_work.proofs.forks.+halving.Given as goal

abbrev pub decreases-rows_by_halves : goal.decreases-rows_by_halves
decreases-rows_by_halves g l = 2 * l.count

abbrev pub decreases-lower : goal.decreases-lower
decreases-lower g l = 2 * l.low + 1

abbrev pub decreases-upper : goal.decreases-upper
decreases-upper g l = 2 * l.high + 1
