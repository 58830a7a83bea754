use Rattle.mat_union.proofs.Common.{◌<◌, ◌∙◌, ap, get_or, map, refl, subst, sym, length-map, IfOk-weaker, family_union, AllBelow-at, IsRunning-end, union_test}
use Rattle.mat_union.proofs.UnionRuns.{running_first, running_more}
use Rattle.mat_union.proofs.running.run_along.Goals as goal

pub loop-x-init : goal.loop-x-init
loop-x-init g c = record {
  growing = c.in_ok-growth.ensures.growing;
  kept = c.in_ok-growth.ensures.kept;
  running = running_first c.all_lawful.ensures (subst (λ k. 0 < k) (sym (length-map c.args.matroids.now g.M.Asked.indep)) c.requires.some)
      c.args.order.now c.in_ok-growth.growth.parts c.in_ok-growth.ensures.growing.are c.in_ok-growth.ensures.first;
}

pub loop-x-preserved : goal.loop-x-preserved
loop-x-preserved g c = record {
  growing = c.in_ok-take_turn.ensures.growing;
  kept = c.in_ok-take_turn.ensures.kept;
  running = running_more c.loop-x.invariant.running (get_or c.args.order.now c.loop-x.x-index 0) c.loop-x-test.true refl
      (family_union c.take_turn.new.growth.parts) c.in_ok-take_turn.ensures.step;
}

pub take_turn-requires-clause-below : goal.take_turn-requires-clause-below
take_turn-requires-clause-below g c = AllBelow-at c.args.n c.args.order.now c.loop-x.x-index c.requires.below c.loop-x-test.true

pub returns : goal.returns
returns g c = IfOk-weaker c.members_of.result _ _
    (λ s told. told ∙ ap family_union c.as_slice.ensures.items ∙ IsRunning-end (union_test c.args.n (map g.M.Asked.indep c.args.matroids.now)) c.args.order.now (family_union c.loop-x.growth.parts) c.loop-x.x-index c.loop-x-test.false
    c.loop-x.invariant.running) c.members_of.ensures
