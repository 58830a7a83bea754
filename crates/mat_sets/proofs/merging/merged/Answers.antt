-- The smaller of the two next items goes to the end, and equal ones go there once; when one list ends, the rest of the other follows.
use Rattle.mat_sets.proofs.Common.{◌≡◌, ◌++◌, drop, ◌∙◌, arith, union}
use Rattle.mat_sets.proofs.UnionWalks.{IsMerging-start, IsMerging-first, IsMerging-second, IsMerging-both}
use Rattle.mat_sets.proofs.UnionWalks.{IsMerging-end_first, IsMerging-end_second, both_rests}
use Rattle.mat_sets.proofs.merging.merged.Goals as goal
use Rattle.mat_sets.proofs.merging.merged.Goals.{then-loop-i-test+else-j-b, else-loop-i-test}

pub loop-i-init : goal.loop-i-init
loop-i-init c = record {
  inside = omega arith;
  others_inside = omega arith;
  so_far = IsMerging-start c.args.a.now c.args.b.now c.in_ok-all.all.items c.in_ok-all.ensures.items;
}

pub loop-i-preserved-then-x-y-2 : goal.loop-i-preserved-then-x-y-2
loop-i-preserved-then-x-y-2 c = record {
  inside = omega arith;
  others_inside = omega arith;
  so_far = rw (c.in_ok-push.ensures.items)
      (IsMerging-both c.args.a.now c.args.b.now c.requires.a_rises c.requires.b_rises c.loop-i.i c.loop-i.j c.loop-i.all.items c.loop-i-test.true
      c.if-j-b.true c.loop-i.invariant.so_far c.if-x-y-2.true);
}

pub loop-i-preserved-else-x-y-2 : goal.loop-i-preserved-else-x-y-2
loop-i-preserved-else-x-y-2 c = record {
  inside = omega arith;
  others_inside = c.loop-i.invariant.others_inside;
  so_far = rw (c.in_ok-push.ensures.items)
      (IsMerging-first c.args.a.now c.args.b.now c.requires.a_rises c.requires.b_rises c.loop-i.i c.loop-i.j c.loop-i.all.items c.loop-i-test.true
      c.if-j-b.true c.loop-i.invariant.so_far (let least = c.if-x-y.true in let other = c.if-x-y-2.false in grind arith));
}

pub loop-i-smaller : goal.loop-i-smaller
loop-i-smaller c = omega arith

pub loop-i-preserved : goal.loop-i-preserved
loop-i-preserved c = record {
  inside = c.loop-i.invariant.inside;
  others_inside = omega arith;
  so_far = rw (c.in_ok-push-2.ensures.items)
      (IsMerging-second c.args.a.now c.args.b.now c.requires.a_rises c.requires.b_rises c.loop-i.i c.loop-i.j c.loop-i.all.items c.loop-i-test.true
      c.if-j-b.true c.loop-i.invariant.so_far (let least = c.if-x-y.false in omega arith));
}

pub returns : goal.returns
returns c =
    both_rests c.args.a.now c.args.b.now c.loop-i.i c.loop-i.j c.loop-i.all.items _ _ c.in_ok-extend_from_slice.ensures.items
    c.in_ok-extend_from_slice-2.ensures.items
    ∙ whole
  where
    whole : (c.loop-i.all.items ++ drop c.loop-i.i c.args.a.now) ++ drop c.loop-i.j c.args.b.now ≡ union c.args.a.now c.args.b.now
    whole = elim c.loop-i-test.branch [
      | then-loop-i-test+else-j-b w ↦ IsMerging-end_second c.args.a.now c.args.b.now c.loop-i.i c.loop-i.j c.loop-i.all.items c.requires.a_rises
          w.loop-i-test.true w.if-j-b.false c.loop-i.invariant.so_far
      | else-loop-i-test w ↦ IsMerging-end_first c.args.a.now c.args.b.now c.loop-i.i c.loop-i.j c.loop-i.all.items w.loop-i-test.false
          c.loop-i.invariant.so_far
    ]
