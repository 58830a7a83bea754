use Rattle.mat_exchange.proofs.TableSteps.{IsFilledTable-none}
use Rattle.mat_exchange.proofs.partial_table.PartialTable.new.Goals as goal

pub returns : goal.returns
returns c = λ exchanges missing long all.
    IsFilledTable-none exchanges missing c.args.n _ _ _ long all c.in_ok-with_capacity.ensures c.in_ok-with_rows.ensures c.in_ok-with_rows-2.ensures
