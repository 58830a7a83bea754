use Rattle.mat_count.proofs.Common.{ltb, ap, refl, Exchange}
use Rattle.mat_count.proofs.UniformRows.{row_of_uniform}
use Rattle.mat_count.proofs.uniform.UniformMatroid.adds.Goals as goal

pub returns : goal.returns
returns c =
    let self = c.args.self.now in
    let row : Exchange = record { addable = ltb c.len.result self.cap; with = c.args.base.now } in
    ap (λ (r : Exchange). r.addable) (row_of_uniform self.count self.cap c.args.base.now c.args._x row c.requires.base c.requires.below c.requires.outside
    (ap (λ k. ltb k self.cap) c.len.ensures.count) refl)
