-- The reached vertices grow by one at each arc of the tree that leaves them; where none leaves them too early, the tree does not span.
use Rattle.mat_cuts.proofs.Common.{None, length, refl, subst, arith, false≢true, ends_of, IsSet, below_member, IsLeaving, TellsLeaving}
use Rattle.mat_cuts.proofs.Reached.{reached_spans, stuck, IsReached-first, IsReached-next}
use Rattle.mat_cuts.proofs.checking.is_spanning.Goals as goal

pub loop-init : goal.loop-init
loop-init c =
    let first = IsReached-first c.args.vertices (ends_of c.args.arcs.now) c.args.root c.args.tree.now c.new-reached.result c.insert.new.self
    c.new-reached.ensures c.in_ok-insert.ensures.ok c.requires.root in
    record { reached = first.0; size = first.1 }

pub returns-in_default : goal.returns-in_default
returns-in_default c =
    let ends = ends_of c.args.arcs.now in
    let tree = c.args.tree.now in
    let told = subst (TellsLeaving ends c.as_slice.result.now c.loop.reached) c.in_default.is c.leaving.ensures in
    let closed = subst (λ s. TellsLeaving ends s c.loop.reached None) c.as_slice.ensures.items told in (
      λ right. absurd (false≢true right),
      λ spans. absurd (stuck c.args.vertices ends c.args.root tree (length c.args.arcs.now) c.loop.reached c.loop.invariant.reached
          (let size = c.loop.invariant.size in let test = c.loop-test.true in omega arith) closed spans),
    )

pub loop-preserved : goal.loop-preserved
loop-preserved c =
    let ends = ends_of c.args.arcs.now in
    let tree = c.args.tree.now in
    let told = subst (TellsLeaving ends c.as_slice.result.now c.loop.reached) c.in-Some.is c.leaving.ensures in
    let leaving = subst (λ s. IsLeaving ends s c.loop.reached c.in-Some.a) c.as_slice.ensures.items told in
    let set : IsSet (length c.args.arcs.now) tree = record { rising = c.len.ensures.rises; below = c.requires.tree } in
    let next = IsReached-next c.args.vertices ends c.args.root tree c.loop.reached c.insert-in-loop.new.self c.in-Some.a c.loop.invariant.reached
    (c.requires.graph.second c.in-Some.a (below_member set leaving.member)) leaving c.in_ok-insert-2.ensures.ok in
    record { reached = next.0; size = (let long = next.1 in let size = c.loop.invariant.size in omega arith) }

pub returns : goal.returns
returns c = (
  λ right. reached_spans c.args.vertices (ends_of c.args.arcs.now) c.args.root c.args.tree.now (length c.args.arcs.now) c.loop.reached
      c.loop.invariant.reached
      (let size = c.loop.invariant.size in let test = c.loop-test.false in let root = c.requires.root in omega (arith, c.loop.auto.counter-end))
      (record { rising = c.len.ensures.rises; below = c.requires.tree })
      (let count = c.len.ensures.count in let same = c.if-len-vertices.false in let root = c.requires.root in omega arith),
  λ spans. refl,
)
