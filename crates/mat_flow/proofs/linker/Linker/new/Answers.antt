use Rattle.mat_flow.proofs.Common.{live_in}
use Rattle.mat_flow.proofs.FirstGoals.{IsShut-all}
use Rattle.mat_flow.proofs.LinkTables.{AreOwn, IsReversed-own}
use Rattle.mat_flow.proofs.LinkedEnds.{HasEnds-own}
use Rattle.mat_flow.proofs.linker.Linker.new.Goals as goal

pub returns : goal.returns
returns c = λ arcs sources.
    let own : AreOwn c.args.vertices c.in_ok-after.after.items = record { long = c.in_ok-after.ensures.long; own = c.in_ok-after.ensures.own } in
    record {
      before = c.in_ok-after.after.items;
      table = HasEnds-own c.args.vertices arcs sources c.in_ok-after.after.items own;
      turned = IsReversed-own c.args.vertices c.in_ok-after.after.items own;
      fits = c.in_ok-room.ensures.room;
      shut = IsShut-all c.args.vertices _ _ (live_in c.in_ok-room.room) c.in_ok-room.ensures.all;
    }
