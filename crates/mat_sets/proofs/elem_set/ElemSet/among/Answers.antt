use Rattle.mat_sets.proofs.Common.{◌≡◌, rules, intersection}
use Rattle.mat_sets.proofs.Members.{IsRising-intersection}
use Rattle.mat_sets.proofs.elem_set.ElemSet.among.Goals as goal

pub invariant_of-result : goal.invariant_of-result
unfolding intersection
invariant_of-result c =
    let e : c.in_ok-items.items.items ≡ intersection c.self.inside.items.items c.args.bits.now = search rules in
    rw e (IsRising-intersection c.self.inside.items.items c.args.bits.now c.self.invariant)

pub returns-clause-set : goal.returns-clause-set
unfolding intersection
returns-clause-set c =
    let e : c.in_ok-items.items.items ≡ intersection c.self.inside.items.items c.args.bits.now = search rules in
    rw e (IsRising-intersection c.self.inside.items.items c.args.bits.now c.self.invariant)
