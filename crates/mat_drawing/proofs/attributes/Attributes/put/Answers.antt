use Rattle.mat_drawing.proofs.Common.{on_ok_weaker}
use Rattle.mat_drawing.proofs.Pieces.{more_added}
use Rattle.mat_drawing.proofs.attributes.Attributes.put.Goals as goal

pub returns : goal.returns
returns c = on_ok_weaker c.put.result
    (λ e. more_added c.in_ok-put_place.ensures (more_added c.in_ok-put_marker.ensures e))
    c.put.ensures
