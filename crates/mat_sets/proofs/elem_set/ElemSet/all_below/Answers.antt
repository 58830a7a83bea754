use Rattle.mat_sets.proofs.Common.{◌≡◌, arith}
use Rattle.mat_sets.proofs.Ground.{IsSet-all_below}
use Rattle.mat_sets.proofs.elem_set.ElemSet.all_below.Goals as goal

pub returns-clause-set : goal.returns-clause-set
returns-clause-set c = let e : c.loop-x.x ≡ c.args.n = omega arith in rw (c.loop-x.invariant, e) (IsSet-all_below c.args.n)
