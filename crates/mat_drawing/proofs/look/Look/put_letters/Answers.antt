use Rattle.mat_drawing.proofs.Common.{on_ok_weaker}
use Rattle.mat_drawing.proofs.Pieces.{more_added}
use Rattle.mat_drawing.proofs.look.Look.put_letters.Goals as goal

pub returns : goal.returns
returns c = on_ok_weaker c.put-4.result
    (λ e. more_added c.in_ok-put.ensures (more_added c.in_ok-put-2.ensures (more_added c.in_ok-put-3.ensures e)))
    c.put-4.ensures
