use Rattle.mat_sets.proofs.Common.{arith, rules}
use Rattle.mat_sets.proofs.Members.{IsRising-with_one}
use Rattle.mat_sets.proofs.Places.{insert-gap, is_member-gap, is_member-place, with_one-place}
use Rattle.mat_sets.proofs.elem_set.ElemSet.add.Goals as goal

pub invariant_of-self-in-Err : goal.invariant_of-self-in-Err
invariant_of-self-in-Err c = let e = insert-gap _ _ _ c.in-Err.ensures in grind (arith, IsRising-with_one)

pub returns-in-Ok-clause-ok : goal.returns-in-Ok-clause-ok
returns-in-Ok-clause-ok c =
    let m = is_member-place _ _ _ c.in-Ok.ensures in
    let e = with_one-place _ _ _ (search rules) c.in-Ok.ensures in
    grind arith

pub returns-in_ok-put_at-in-Err-clause-ok : goal.returns-in_ok-put_at-in-Err-clause-ok
returns-in_ok-put_at-in-Err-clause-ok c =
    let m = is_member-gap _ _ _ c.in-Err.ensures in
    let e = insert-gap _ _ _ c.in-Err.ensures in
    grind arith

pub returns-in_ok-put_at-in-Err-clause-rises : goal.returns-in_ok-put_at-in-Err-clause-rises
returns-in_ok-put_at-in-Err-clause-rises c = let e = insert-gap _ _ _ c.in-Err.ensures in grind (arith, IsRising-with_one)
