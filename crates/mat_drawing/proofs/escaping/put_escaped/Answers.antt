use Rattle.mat_drawing.proofs.Common.{arith, common_steps}
use Rattle.mat_drawing.proofs.Pieces.{escaped_printed}
use Rattle.mat_drawing.proofs.escaping.put_escaped.Goals as goal

pub returns : goal.returns
returns c = rw (← escaped_printed c.args.words.now) (grind (arith, common_steps))
