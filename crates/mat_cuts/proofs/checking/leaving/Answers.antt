use Rattle.mat_cuts.proofs.Common.{refl, sym, ends_of, is_member-get_or, AllBelow-at}
use Rattle.mat_cuts.proofs.Reached.{TellsLeaving-skip}
use Rattle.mat_cuts.proofs.checking.leaving.Goals as goal

pub leaves-requires : goal.leaves-requires
leaves-requires c = AllBelow-at _ c.args.tree.now c.loop-a.a-index c.requires c.loop-a-test.true

pub returns-then-leaves : goal.returns-then-leaves
returns-then-leaves c = record {
  member = is_member-get_or c.args.tree.now c.loop-a.a-index _ c.loop-a-test.true refl;
  leaving = sym c.if-leaves.ensures;
}

pub loop-a-preserved : goal.loop-a-preserved
loop-a-preserved c =
    TellsLeaving-skip (ends_of c.args.arcs.now) c.args.tree.now c.args.reached.now c.loop-a.a-index c.loop-a-test.true (sym c.if-leaves.ensures)
    c.loop-a.invariant
