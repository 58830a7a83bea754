use Rattle.mat_exchange.proofs.Common.{◌∙◌}
use Rattle.mat_exchange.proofs.TableSteps.{AreTransposed-filled, table_of-filled}
use Rattle.mat_exchange.proofs.partial_table.PartialTable.finish.Goals as goal

pub new-requires : goal.new-requires
new-requires c =
    let f = c.requires.filled in
    AreTransposed-filled f.0 f.1 c.args.self.addable c.args.self.rows c.args.self.columns f.2

pub returns : goal.returns
returns c = λ exchanges missing filled whole.
    c.new.ensures ∙ table_of-filled exchanges missing c.args.self.addable c.args.self.rows c.args.self.columns filled c.args.base whole
