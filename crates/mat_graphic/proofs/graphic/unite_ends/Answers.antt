use Rattle.mat_graphic.proofs.Common.{ends_of, least_merged}
use Rattle.mat_graphic.proofs.Uniting.{table_more}
use Rattle.mat_graphic.proofs.graphic.unite_ends.Goals as goal

pub returns-clause-united : goal.returns-clause-united
returns-clause-united c = λ X t. table_more (ends_of c.args.edges.now) c.args.e X c.unite.new.parent
    (c.unite.ensures.table (least_merged (ends_of c.args.edges.now) X) t)

pub returns-clause-apart : goal.returns-clause-apart
returns-clause-apart c = λ X t. c.unite.ensures.apart (least_merged (ends_of c.args.edges.now) X) t
