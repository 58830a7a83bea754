-- Of no strokes there is no path.
use Rattle.mat_drawing.proofs.Common.{◌≡◌, string_len}
use Rattle.mat_drawing.proofs.paths.strokes.Given as goal

abbrev pub invariant-loop-i : goal.invariant-loop-i
invariant-loop-i l = l.count ≡ 0 → string_len l.path ≡ 0
