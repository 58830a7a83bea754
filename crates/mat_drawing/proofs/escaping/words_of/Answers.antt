use Rattle.mat_drawing.proofs.Common.{rules}
use Rattle.mat_drawing.proofs.Pieces.{words_markup}
use Rattle.mat_drawing.proofs.escaping.words_of.Goals as goal

pub returns : goal.returns
returns g c = words_markup c.as_bytes.result.now c.put_escaped.new.out.items (search rules)
