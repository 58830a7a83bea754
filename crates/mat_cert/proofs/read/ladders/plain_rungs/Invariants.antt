use Rattle.mat_cert.proofs.Common.{◌≡◌, lines_left, plain_rung_at, rungs_at}
use Rattle.mat_cert.proofs.RungLists.{rungs_left}
use Rattle.mat_cert.proofs.read.ladders.plain_rungs.Given as goal

abbrev pub invariant-loop-k : goal.invariant-loop-k
invariant-loop-k l =
    rungs_left (plain_rung_at l.count) l.rungs.items l.many l.k (lines_left l.rest) ≡ rungs_at (plain_rung_at l.count) 0 l.many
    (lines_left l.fn.lines)
