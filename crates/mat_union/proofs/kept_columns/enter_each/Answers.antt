use Rattle.mat_union.proofs.Common.{◌<◌, arith, subst, row_of}
use Rattle.mat_union.proofs.ArcsOfParts.{adds_below, entered_end, entered_more, entered_none}
use Rattle.mat_union.proofs.kept_columns.enter_each.Goals as goal

pub loop-x-init : goal.loop-x-init
loop-x-init g c = entered_none (λ y. (row_of (g.M.Asked.indep c.args.m.now) c.args.part.now y).addable) c.args.entering.now

pub loop-x-preserved : goal.loop-x-preserved
loop-x-preserved g c = entered_more (λ y. (row_of (g.M.Asked.indep c.args.m.now) c.args.part.now y).addable) c.args.entering.now c.loop-x.x c.loop-x.entering c.enter.new.entering
    c.loop-x.invariant c.in_ok-enter.ensures

pub returns : goal.returns
returns g c = entered_end (λ y. (row_of (g.M.Asked.indep c.args.m.now) c.args.part.now y).addable) c.args.entering.now c.loop-x.x c.args.n c.loop-x.entering
    (omega (arith, c.loop-x-test.false, c.loop-x.auto.x-end))
    (λ x t. subst (λ k. x < k) c.requires.size (adds_below c.obeys.ensures c.args.part.now x t)) c.loop-x.invariant
