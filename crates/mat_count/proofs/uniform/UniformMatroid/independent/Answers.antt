use Rattle.mat_count.proofs.Common.{is_set-true}
use Rattle.mat_count.proofs.uniform.UniformMatroid.independent.Goals as goal

pub returns : goal.returns
returns c =
    let set = is_set-true c.args.self.now.count c.args.set.now c.len.ensures.rises c.requires.below in
    rw (c.len.ensures.count, set)
