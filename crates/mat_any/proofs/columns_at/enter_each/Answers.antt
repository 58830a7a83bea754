use Rattle.mat_any.proofs.Common.{◌<◌, arith, subst, sym, row_of, adds_below, entered_end, entered_more, entered_none, is_independent, tree_of}
use Rattle.mat_any.proofs.columns_at.enter_each.Goals as goal

pub loop-x-init : goal.loop-x-init
loop-x-init c = entered_none (λ y. (row_of (is_independent (tree_of c.args.matroid.now)) c.args.part.now y).addable) c.args.entering.now

pub loop-x-preserved : goal.loop-x-preserved
loop-x-preserved c = entered_more (λ y. (row_of (is_independent (tree_of c.args.matroid.now)) c.args.part.now y).addable) c.args.entering.now c.loop-x.x c.loop-x.entering
    c.enter.new.entering c.loop-x.invariant c.in_ok-enter.ensures

pub returns : goal.returns
returns c = entered_end (λ y. (row_of (is_independent (tree_of c.args.matroid.now)) c.args.part.now y).addable) c.args.entering.now c.loop-x.x c.size_of-x-end.result
    c.loop-x.entering (omega (arith, c.loop-x-test.false, c.loop-x.auto.x-end))
    (λ x t. subst (λ k. x < k) (sym c.size_of-x-end.ensures) (adds_below c.lawful.ensures c.args.part.now x t)) c.loop-x.invariant
