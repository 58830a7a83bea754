-- Of no points there is no path.
use Rattle.mat_drawing.proofs.Common.{◌≡◌, length, string_len}
use Rattle.mat_drawing.proofs.paths.polyline.Given as goal

abbrev pub invariant-loop-i : goal.invariant-loop-i
invariant-loop-i l = length l.points ≡ 0 → string_len l.path ≡ 0
