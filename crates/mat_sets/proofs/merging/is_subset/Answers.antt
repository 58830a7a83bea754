use Rattle.mat_sets.proofs.Common.{refl, sym, subst, ◌∙◌, arith, take_all, false≢true, IsSubset}
use Rattle.mat_sets.proofs.Members.{RisesFrom-index}
use Rattle.mat_sets.proofs.Steps.{IsSubset-none, IsSubset-more, not-IsSubset}
use Rattle.mat_sets.proofs.merging.is_subset.Goals as goal

pub loop-x-init : goal.loop-x-init
loop-x-init c = record { so_far = IsSubset-none c.args.b.now; inside = omega arith; low = λ k i p q l. absurd (omega arith) }

pub advance-j-requires-clause-start : goal.advance-j-requires-clause-start
advance-j-requires-clause-start c = c.loop-x.invariant.inside

pub advance-j-requires-clause-low : goal.advance-j-requires-clause-low
advance-j-requires-clause-low c = λ k l. c.loop-x.invariant.low k c.loop-x.x-index l (omega arith) c.loop-x-test.true

pub returns-then-not-stands_at : goal.returns-then-not-stands_at
returns-then-not-stands_at c = (
  λ yes. absurd (false≢true yes),
  λ s. absurd (not-IsSubset c.args.a.now c.args.b.now c.loop-x.x-index c.loop-x-test.true (sym c.stands_at.ensures ∙ c.if-not-stands_at.true) s),
)

pub loop-x-preserved : goal.loop-x-preserved
loop-x-preserved c = record {
  so_far = IsSubset-more c.args.a.now c.args.b.now c.loop-x.x-index c.loop-x-test.true c.loop-x.invariant.so_far
      (sym c.stands_at.ensures ∙ c.if-not-stands_at.false);
  inside = c.advance-j.ensures.inside;
  low = λ k i p q l.
      let above = RisesFrom-index 0 c.args.a.now c.loop-x.x-index i c.requires.a_rises.rises (omega arith) l in
      omega (arith, c.advance-j.ensures.low k p);
}

pub returns : goal.returns
returns c = (
  λ yes. subst (λ s. IsSubset s c.args.b.now) (take_all c.loop-x.x-index c.args.a.now c.loop-x-test.false) c.loop-x.invariant.so_far,
  λ s. refl,
)
