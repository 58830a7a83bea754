use Rattle.mat_drawing.proofs.Common.{◌≡◌, true, IfOk-weaker, IsMarkup, is_text_byte}
use Rattle.std.specs.List.{list_all}
use Rattle.mat_drawing.proofs.Printable.{markup_printable}
use Rattle.mat_drawing.proofs.drawing.Drawing.picture.Goals as goal

pub returns-clause-printable : goal.returns-clause-printable
returns-clause-printable c =
    IfOk-weaker c.document.result (λ text. IsMarkup text.items) (λ text. list_all is_text_byte text.items ≡ true) (λ text m. markup_printable text.items m) c.document.ensures.markup
