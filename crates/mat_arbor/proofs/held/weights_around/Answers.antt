-- A next set adds its weight at the vertices that it holds, and at no other; the sums stay small, since there are few sets.
use mir.Syntax.{w128}
use Rattle.mat_arbor.proofs.Common.{◌≡◌, ◌∙◌, ◌^◌, take, sym, ap, subst, arith, to_z, of_z, ints, length-take-le, is_member, weight_where, CutWeight, IsCutWithin}
use Rattle.mat_sets.proofs.EachItem.{AllByRecursion-at, AllByRecursion-take}
use Rattle.mat_arbor.proofs.Adding.{around_more, around_within}
use Rattle.mat_arbor.proofs.held.weights_around.Goals as goal

pub add_at_members-requires-clause-room : goal.add_at_members-requires-clause-room
add_at_members-requires-clause-room c = λ v l.
    let vertices = c.args.vertices in
    let cuts = c.args.cuts.now in
    let i = c.loop-cut.cut-index in
    let long = c.loop-cut.invariant.long in
    let each = c.loop-cut.invariant.sums v (omega arith) in
    let within = around_within vertices (10 ^ 31) (take i cuts) v (AllByRecursion-take (IsCutWithin vertices (10 ^ 31)) cuts i c.requires.cuts) in
    let short = length-take-le i cuts (omega arith) in
    let few = c.requires.few in
    let inside = c.loop-cut-test.true in
    (omega (arith, ints), omega (arith, ints))

pub loop-cut-preserved : goal.loop-cut-preserved
loop-cut-preserved c =
    let cuts = c.args.cuts.now in
    let i = c.loop-cut.cut-index in
    let item = c.cut-item.result in
    let one = subst (IsCutWithin c.args.vertices (10 ^ 31)) (sym c.cut-item.is)
    (AllByRecursion-at (IsCutWithin c.args.vertices (10 ^ 31)) cuts i item c.loop-cut-test.true c.requires.cuts) in
    let small = one.small in
    let fits : to_z w128 (of_z w128 item.weight) ≡ item.weight = omega (arith, ints) in
    let long = c.loop-cut.invariant.long in
    record {
      long = c.add_at_members.ensures.long ∙ c.loop-cut.invariant.long;
      sums = λ v l.
          let added = c.add_at_members.ensures.each v (omega arith) in
          let before = c.loop-cut.invariant.sums v l in
          let more = around_more cuts i item v c.loop-cut-test.true in
          let same_cut = ap (λ (d : CutWeight). weight_where (is_member v d.set) d.weight) c.cut-item.is in
          let same_set = ap (λ s. weight_where (is_member v s) item.weight) c.as_slice.ensures.items in
          let same_weight = ap (weight_where (is_member v c.as_slice.result.now)) fits in
          omega (arith, ints);
    }
