use Rattle.mat_drawing.proofs.Common.{on_ok_weaker}
use Rattle.mat_drawing.proofs.Pieces.{more_added}
use Rattle.mat_drawing.proofs.attributes.Attributes.put_place.Goals as goal

pub returns : goal.returns
returns c = on_ok_weaker c.put-10.result
    (λ e. more_added c.in_ok-put.ensures (more_added c.in_ok-put-2.ensures (more_added c.in_ok-put-3.ensures
    (more_added c.in_ok-put-4.ensures (more_added c.in_ok-put-5.ensures (more_added c.in_ok-put-6.ensures
    (more_added c.in_ok-put-7.ensures (more_added c.in_ok-put-8.ensures (more_added c.in_ok-put-9.ensures e)))))))))
    c.put-10.ensures
