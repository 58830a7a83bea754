use Rattle.mat_flow.proofs.Common.{subst, live_in, IsReversed}
use Rattle.mat_flow.proofs.FirstGoals.{IsShut-all}
use Rattle.mat_flow.proofs.linker.Linker.of_table.Goals as goal

pub returns : goal.returns
returns c = λ arcs sources ends h. record {
  before = c.args.links.now.before.items;
  table = h;
  turned = subst (λ b. IsReversed b c.in_ok-after.after.items) c.before-2.ensures c.in_ok-after.ensures;
  fits = c.in_ok-room.ensures.room;
  shut = IsShut-all c.args.vertices _ _ (live_in c.in_ok-room.room) c.in_ok-room.ensures.all;
}
