use Rattle.mat_drawing.proofs.Common.{ap, ◌++◌, ◌∙◌, on_ok_weaker}
use Rattle.mat_drawing.proofs.drawing.Drawing.append.Goals as goal

pub returns-clause-added : goal.returns-clause-added
returns-clause-added c = on_ok_weaker c.add.result
    (λ e. record { added = c.args.other.now.markup; is_markup = c.markup.ensures.markup; told = e ∙ ap (λ t. c.args.self.now.markup ++ t) c.markup.ensures.lines })
    c.add.ensures
