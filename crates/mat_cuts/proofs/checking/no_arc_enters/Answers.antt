use Rattle.mat_cuts.proofs.Common.{◌≡◌, ◌∙◌, false, refl, sym, ap, arith, below_more, both_ways, false≢true, ends_of, enters}
use Rattle.mat_cuts.proofs.checking.no_arc_enters.Goals as goal

pub loop-a-init : goal.loop-a-init
loop-a-init c = λ a l. absurd (omega arith)

pub loop-a-preserved : goal.loop-a-preserved
loop-a-preserved c =
    let ends = ends_of c.args.arcs.now in
    below_more (λ a. enters ends c.args.set.now a ≡ false) c.loop-a.a c.loop-a.invariant
    (ap (λ s. enters ends s c.loop-a.a) (sym c.in_ok-inside.ensures.members) ∙ sym c.if-is_entering.ensures)

pub returns-then-is_entering : goal.returns-then-is_entering
returns-then-is_entering c =
    let ends = ends_of c.args.arcs.now in (
      λ right. absurd (false≢true right),
      λ none. absurd (both_ways _ (none c.loop-a.a c.loop-a-test.true)
          (ap (λ s. enters ends s c.loop-a.a) (sym c.in_ok-inside.ensures.members) ∙ sym c.if-is_entering.ensures)),
    )

pub returns : goal.returns
returns c = (λ right. λ a l. c.loop-a.invariant a (let past = c.loop-a-test.false in omega arith), λ none. refl)
