use Rattle.mat_exchange.proofs.TableSteps.{IsFilledTable-add}
use Rattle.mat_exchange.proofs.partial_table.PartialTable.enter_addable.Goals as goal

pub returns : goal.returns
returns c = λ exchanges missing fits filled.
    IsFilledTable-add exchanges missing c.args.x c.args.self.now.addable c.args.self.now.rows c.args.self.now.columns filled _ fits c.in_ok-insert.ensures.ok
