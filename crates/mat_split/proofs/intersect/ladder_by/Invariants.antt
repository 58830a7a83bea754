use Rattle.mat_split.proofs.Common.{◌≡◌, ◌+◌, ◌-◌, length, rows_of}
use Rattle.mat_split.proofs.RungSteps.{AreRungs}
use Rattle.mat_split.proofs.intersect.ladder_by.Given as goal

abbrev pub invariant-loop-second : goal.invariant-loop-second
invariant-loop-second g l =
    AreRungs (g.A.Matroid.ground_size l.a) (g.A.Matroid.indep l.a) (g.B.Matroid.indep l.b) l.weights l.rungs.items l.rung
    × g.A.Matroid.keeps l.a l.rung.set l.first.kept × (l.first.table ≡ rows_of (g.A.Matroid.ground_size l.a) (g.A.Matroid.indep l.a) l.rung.set)
    × g.B.Matroid.keeps l.b l.rung.set l.second.kept × (l.second.table ≡ rows_of (g.B.Matroid.ground_size l.b) (g.B.Matroid.indep l.b) l.rung.set)

abbrev pub decreases-loop-second : goal.decreases-loop-second
decreases-loop-second g l = (g.A.Matroid.ground_size l.a + 1) - length l.rungs.items
