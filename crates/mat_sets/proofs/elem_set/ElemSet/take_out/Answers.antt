use Rattle.mat_sets.proofs.Common.{arith, rules}
use Rattle.mat_sets.proofs.Members.{IsRising-without_one}
use Rattle.mat_sets.proofs.Places.{is_member-gap, is_member-place, remove-place, without_one-gap}
use Rattle.mat_sets.proofs.elem_set.ElemSet.take_out.Goals as goal

pub invariant_of-self : goal.invariant_of-self
invariant_of-self c = let e = remove-place _ _ _ (search rules) c.in-Ok.ensures in grind (arith, IsRising-without_one)

pub returns-in-Ok-clause-was : goal.returns-in-Ok-clause-was
returns-in-Ok-clause-was c = let m = is_member-place _ _ _ c.in-Ok.ensures in search rules

pub returns-in-Ok-clause-items : goal.returns-in-Ok-clause-items
returns-in-Ok-clause-items c = let e = remove-place _ _ _ (search rules) c.in-Ok.ensures in search rules

pub returns-in-Ok-clause-rises : goal.returns-in-Ok-clause-rises
returns-in-Ok-clause-rises c = let e = remove-place _ _ _ (search rules) c.in-Ok.ensures in grind (arith, IsRising-without_one)

pub returns-in-Err-clause-was : goal.returns-in-Err-clause-was
returns-in-Err-clause-was c = let m = is_member-gap _ _ _ c.in-Err.ensures in search rules

pub returns-in-Err-clause-items : goal.returns-in-Err-clause-items
returns-in-Err-clause-items c = let e = without_one-gap _ _ _ (search rules) c.in-Err.ensures in search rules
