use Rattle.mat_drawing.proofs.Common.{rules}
use Rattle.mat_drawing.proofs.Pieces.{empty_element_markup}
use Rattle.mat_drawing.proofs.elements.empty_element.Goals as goal

pub returns : goal.returns
returns c = empty_element_markup c.args.name.now c.in_ok-text.text.items c.extend_from_slice.new.self.items c.requires c.in_ok-text.ensures (search rules)
