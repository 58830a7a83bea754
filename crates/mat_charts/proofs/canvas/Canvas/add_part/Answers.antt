use Rattle.std.proofs.Common.{subst, ◌∙◌}
use Rattle.mat_drawing.specs.Markup.{AddsMarkup}
use Rattle.mat_drawing.proofs.Pieces.{adds_more}
use Rattle.mat_charts.proofs.canvas.Canvas.add_part.Goals as goal

pub returns-clause-drawn : goal.returns-clause-drawn
returns-clause-drawn c =
    subst (λ d. AddsMarkup d.markup c.lines.new.self.markup) (c.widen-2.ensures.drawn ∙ c.widen.ensures.drawn)
    (adds_more c.widen-2.new.self.drawing.markup c.append.new.self.markup c.lines.new.self.markup c.in_ok-append.ensures.added c.in_ok-end.ensures.added)
