use Rattle.mat_drawing.proofs.Common.{on_ok_weaker}
use Rattle.mat_drawing.proofs.Pieces.{line_added, line_feed_markup}
use Rattle.mat_drawing.proofs.drawing.Drawing.add_line.Goals as goal

pub add-requires-2 : goal.add-requires-2
add-requires-2 c = line_feed_markup

pub returns : goal.returns
returns c = on_ok_weaker c.add-2.result
    (λ e. line_added c.args.self.now.markup c.args.markup.now c.add.new.self.markup c.add-2.new.self.markup c.requires c.in_ok-add.ensures e) c.add-2.ensures
