-- Each of the vertices so far but the first is in the row of the one before it.
use Rattle.mat_witness.proofs.SourcePaths.{AreAlong}
use Rattle.mat_witness.proofs.parts.gammoids.paths.is_along.Given as goal

abbrev pub invariant-loop-i : goal.invariant-loop-i
invariant-loop-i l = AreAlong l.rows l.path l.i
