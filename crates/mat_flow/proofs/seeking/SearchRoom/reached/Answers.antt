use Rattle.mat_flow.proofs.Common.{◌≡◌, ◌+◌, [], get_or, subst, sym, take, is_member, IsRising, IsRising-with_one}
use Rattle.mat_flow.proofs.FirstGoals.{put_more}
use Rattle.mat_flow.proofs.seeking.SearchRoom.reached.Goals as goal

pub loop-v-preserved : goal.loop-v-preserved
loop-v-preserved c =
    let items = c.deref-v-items.result.now in
    let is = c.deref-v-items.ensures.value in
    let i = c.loop-v.v-index in
    record {
      members = λ x. subst (λ f. is_member x c.insert.new.self ≡ is_member x (take (i + 1) f)) is
          (put_more x [] c.loop-v.set c.insert.new.self items i c.loop-v-test.true c.in_ok-insert.ensures.ok
          (subst (λ f. is_member x c.loop-v.set ≡ is_member x (take i f)) (sym is) (c.loop-v.invariant.members x)));
      rises = subst IsRising (sym c.in_ok-insert.ensures.ok) (IsRising-with_one c.loop-v.set (get_or items i 0) c.loop-v.invariant.rises);
    }
