use Rattle.mat_drawing.proofs.Pieces.{none_added}
use Rattle.mat_drawing.proofs.attributes.put.Goals as goal

pub returns-in-None : goal.returns-in-None
returns-in-None g c = none_added c.args.name.now c.args.tag.now.items
