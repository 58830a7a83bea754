-- A next set adds its weight at each arc that enters it, and at no other; the sums stay small, since there are few sets.
use mir.Syntax.{w128}
use Rattle.mat_cuts.proofs.Common.{◌≡◌, ◌∙◌, take, sym, ap, subst, arith, to_z, of_z, ints, length-take-le, largest_number, ends_of, enters, IsWithin, weight_where, CutWeight, AllByRecursion-at, AllByRecursion-take}
use Rattle.mat_cuts.proofs.Adding.{weight_on-more, weight_on-within}
use Rattle.mat_cuts.proofs.checking.paid_costs.Goals as goal

pub add_at_entering-requires-clause-room : goal.add_at_entering-requires-clause-room
add_at_entering-requires-clause-room c = λ a l.
    let cuts = c.args.cuts.now in
    let i = c.loop-cut.cut-index in
    let each = c.loop-cut.invariant.each a l in
    let within = weight_on-within largest_number (ends_of c.args.arcs.now) (take i cuts) a (AllByRecursion-take (λ d. IsWithin largest_number d.weight) cuts i c.requires.small) in
    let long = length-take-le i cuts (omega arith) in
    let few = c.requires.few in
    let inside = c.loop-cut-test.true in
    (omega (arith, ints), omega (arith, ints))

pub loop-cut-preserved : goal.loop-cut-preserved
loop-cut-preserved c =
    let ends = ends_of c.args.arcs.now in
    let cuts = c.args.cuts.now in
    let i = c.loop-cut.cut-index in
    let item = c.cut-item.result in
    let one = subst (λ (d : CutWeight). IsWithin largest_number d.weight) (sym c.cut-item.is)
    (AllByRecursion-at (λ d. IsWithin largest_number d.weight) cuts i item c.loop-cut-test.true c.requires.small) in
    let fits : to_z w128 (of_z w128 item.weight) ≡ item.weight = omega (arith, ints) in
    record {
      long = c.add_at_entering.ensures.long ∙ c.loop-cut.invariant.long;
      each = λ a l.
          let added = c.add_at_entering.ensures.each a l in
          let before = c.loop-cut.invariant.each a l in
          let more = weight_on-more ends cuts a i item c.loop-cut-test.true in
          let same_cut = ap (λ (d : CutWeight). weight_where (enters ends d.set a) d.weight) c.cut-item.is in
          let same_set = ap (λ s. weight_where (enters ends s a) item.weight) c.in_ok-inside.ensures.members in
          let same_weight = ap (weight_where (enters ends c.in_ok-inside.inside a)) fits in
          omega (arith, ints);
    }
