use Rattle.mat_drawing.proofs.Common.{rules}
use Rattle.mat_drawing.proofs.Pieces.{attribute_added}
use Rattle.mat_drawing.proofs.attributes.put_attribute.Goals as goal

pub returns : goal.returns
returns c = attribute_added c.args.tag.now.items c.push-2.new.self.items c.args.name.now c.args.value.now c.requires (search rules)
