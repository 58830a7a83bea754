use Rattle.mat_sets.proofs.Common.{◌≡◌, rules, without_one}
use Rattle.mat_sets.proofs.Members.{IsRising-without_one}
use Rattle.mat_sets.proofs.elem_set.ElemSet.without.Goals as goal

pub invariant_of-result : goal.invariant_of-result
unfolding without_one
invariant_of-result c =
    let e : c.in_ok-items.items.items ≡ without_one c.self.inside.items.items c.args.x = search rules in
    rw e (IsRising-without_one c.self.inside.items.items c.args.x c.self.invariant)

pub returns-clause-set : goal.returns-clause-set
unfolding without_one
returns-clause-set c =
    let e : c.in_ok-items.items.items ≡ without_one c.self.inside.items.items c.args.x = search rules in
    rw e (IsRising-without_one c.self.inside.items.items c.args.x c.self.invariant)
