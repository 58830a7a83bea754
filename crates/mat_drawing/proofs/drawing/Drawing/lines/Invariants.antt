-- So far markup is added, and the next line is lower by so much for each line.
use Rattle.mat_drawing.proofs.Common.{◌≡◌, length, pos, ◌+ℤ◌, ◌*ℤ◌, AddsMarkup}
use Rattle.std.specs.Int.{w64, saturate_signed}
use Rattle.mat_drawing.proofs.drawing.Drawing.lines.Given as goal

abbrev pub invariant-loop-line : goal.invariant-loop-line
invariant-loop-line l = AddsMarkup l.fn.self.markup l.self.markup × (l.at.x ≡ l.fn.from.x)
    × (l.at.y.0 ≡ saturate_signed w64 (l.fn.from.y.0 +ℤ pos (length l.yielded) *ℤ l.fn.apart))
