use Rattle.mat_text.proofs.Paragraphs.{adds_any}
use Rattle.mat_text.proofs.text.Text.list.Goals as goal

pub returns-clause-added : goal.returns-clause-added
returns-clause-added g c = adds_any c.detail.result _ _ _ _ c.detail.ensures.added
