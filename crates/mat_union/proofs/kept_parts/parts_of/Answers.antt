use Rattle.mat_union.proofs.Common.{get_or, map, subst, IsBrought}
use Rattle.mat_union.proofs.PartsOfSets.{coming_in_end, coming_in_more, coming_in_none, coming_in_refused}
use Rattle.mat_union.proofs.StuckParts.{next_below}
use Rattle.mat_union.proofs.kept_parts.parts_of.Goals as goal

pub loop-x-init : goal.loop-x-init
loop-x-init g c = record { are = c.in_ok-parts.ensures.are; kept = c.in_ok-kept.ensures; coming = coming_in_none c.as_slice-x-items.ensures.items c.in_ok-parts.ensures.inside }

pub loop-x-preserved : goal.loop-x-preserved
loop-x-preserved g c =
    let brought = IsBrought c.args.n (map g.M.Asked.indep c.args.matroids.now) c.loop-x.held.parts (get_or c.as_slice-x-items.result.now c.loop-x.x-index 0) c.bring.new.held.parts in
    record {
      are = c.in_ok-bring.ensures.parts;
      kept = c.in_ok-bring.ensures.kept;
      coming = coming_in_more c.as_slice-x-items.ensures.items c.loop-x.invariant.coming c.loop-x-test.true (subst brought c.if-not-branch.false c.in_ok-bring.ensures.brought);
    }

pub bring-requires-clause-below : goal.bring-requires-clause-below
bring-requires-clause-below g c = next_below c.as_slice-x-items.result.now c.args.set.now c.args.n c.loop-x.x-index c.as_slice-x-items.ensures.items c.requires.below c.loop-x-test.true

pub returns-then-not-branch : goal.returns-then-not-branch
returns-then-not-branch g c =
    let brought = IsBrought c.args.n (map g.M.Asked.indep c.args.matroids.now) c.loop-x.held.parts (get_or c.as_slice-x-items.result.now c.loop-x.x-index 0) c.bring.new.held.parts in
    coming_in_refused c.as_slice-x-items.ensures.items c.all_lawful.ensures c.loop-x.invariant.coming c.loop-x-test.true (subst brought c.if-not-branch.true c.in_ok-bring.ensures.brought)

pub returns : goal.returns
returns g c = record {
  are = c.loop-x.invariant.are;
  together = coming_in_end c.as_slice-x-items.ensures.items c.loop-x.invariant.coming c.as_slice-x-items.ensures.rises c.loop-x-test.false;
  each = c.loop-x.invariant.kept;
}
