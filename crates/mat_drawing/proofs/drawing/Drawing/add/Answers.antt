use Rattle.std.specs.Result.{is_ok}
use Rattle.mat_drawing.proofs.Pieces.{added_markup}
use Rattle.mat_drawing.proofs.drawing.Drawing.add.Goals as goal

pub invariant_of-self : goal.invariant_of-self
invariant_of-self c = added_markup (is_ok c.extend_from_slice.result) c.self.inside.markup.items c.args.markup.now c.extend_from_slice.new.self.items c.self.invariant c.requires c.extend_from_slice.ensures.items
