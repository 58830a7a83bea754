use Rattle.mat_drawing.proofs.Plain.{escaped_plain}
use Rattle.mat_drawing.proofs.escaping.escaping_laws.Goals as goal

pub returns : goal.returns
returns c = escaped_plain
