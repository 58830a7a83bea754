use Rattle.mat_drawing.proofs.Common.{rules, ◌∷◌, []}
use Rattle.std.specs.Result.{is_ok}
use Rattle.mat_drawing.proofs.Pieces.{added_markup, line_feed_markup, lines_markup}
use Rattle.mat_drawing.proofs.elements.document.Goals as goal

pub element-requires-clause-inside : goal.element-requires-clause-inside
element-requires-clause-inside c = lines_markup c.args.lines.now c.deref.result.now c.requires.lines (search rules)

pub returns-clause-markup : goal.returns-clause-markup
returns-clause-markup c = added_markup (is_ok c.push.result) c.in_ok-text.text.items (10 ∷ []) c.push.new.self.items c.in_ok-text.ensures.markup line_feed_markup c.push.ensures.items
