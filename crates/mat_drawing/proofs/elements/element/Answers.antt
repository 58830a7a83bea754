use Rattle.mat_drawing.proofs.Common.{rules}
use Rattle.mat_drawing.proofs.Pieces.{element_markup, element_spelled}
use Rattle.mat_drawing.proofs.elements.element.Goals as goal

pub returns-clause-is_element : goal.returns-clause-is_element
returns-clause-is_element c =
    element_spelled c.args.name.now c.in_ok-text.text.items c.args.inside.now c.push-2.new.self.items c.requires.name c.in_ok-text.ensures c.requires.inside (search rules)

pub returns-clause-markup : goal.returns-clause-markup
returns-clause-markup c = element_markup c.args.name.now c.push-2.new.self.items (returns-clause-is_element c)
