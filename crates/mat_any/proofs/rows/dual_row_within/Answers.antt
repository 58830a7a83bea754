use Rattle.mat_any.proofs.Common.{kept_row_told}
use Rattle.mat_any.proofs.rows.dual_row_within.Goals as goal

pub returns-clause-row : goal.returns-clause-row
returns-clause-row c =
    kept_row_told c.lawful.ensures c.args._base.now c.args.kept.now.set c.args.kept.now.base c.args.kept.now.columns c.args.x c.dual_row.result
    c.requires.base c.requires.kept c.requires.below c.requires.outside c.dual_row.ensures.rises c.dual_row.ensures.row
