use Rattle.mat_count.proofs.Common.{ltb, ap}
use Rattle.mat_count.proofs.UniformRows.{row_of_uniform}
use Rattle.mat_count.proofs.uniform.UniformMatroid.row.Goals as goal

pub returns-clause-row : goal.returns-clause-row
returns-clause-row c =
    let self = c.args.self.now in
    row_of_uniform self.count self.cap c.args.base.now c.args._x _ c.requires.base c.requires.below c.requires.outside
    (ap (λ k. ltb k self.cap) c.len.ensures.count) c.in_ok-with.ensures.equal
