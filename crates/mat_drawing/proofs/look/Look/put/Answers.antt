use Rattle.mat_drawing.proofs.Common.{on_ok_weaker}
use Rattle.mat_drawing.proofs.Pieces.{more_added}
use Rattle.mat_drawing.proofs.look.Look.put.Goals as goal

pub returns : goal.returns
returns c = on_ok_weaker c.put-2.result
    (λ e. more_added c.in_ok-put_letters.ensures (more_added c.in_ok-put_colours.ensures (more_added c.in_ok-put_lines.ensures (more_added c.in_ok-put.ensures e))))
    c.put-2.ensures
