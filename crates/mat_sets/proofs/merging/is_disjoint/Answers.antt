-- The items so far are none of the other list, whose items before place j are all smaller than the next one.
use Rattle.mat_sets.proofs.Common.{refl, sym, ap, ◌∙◌, arith, get_or, take_all, both_ways, false≢true, intersection}
use Rattle.mat_sets.proofs.DisjointSets.{apart_at}
use Rattle.mat_sets.proofs.Members.{RisesFrom-index, intersection-none, is_member-get_or}
use Rattle.mat_sets.proofs.Places.{intersection-skip}
use Rattle.mat_sets.proofs.merging.is_disjoint.Goals as goal

pub loop-x-init : goal.loop-x-init
loop-x-init c = record { so_far = intersection-none c.args.b.now; inside = omega arith; low = λ k i p q l. absurd (omega arith) }

pub advance-j-requires-clause-start : goal.advance-j-requires-clause-start
advance-j-requires-clause-start c = c.loop-x.invariant.inside

pub advance-j-requires-clause-low : goal.advance-j-requires-clause-low
advance-j-requires-clause-low c = λ k l. c.loop-x.invariant.low k c.loop-x.x-index l (omega arith) c.loop-x-test.true

pub returns-then-stands_at : goal.returns-then-stands_at
returns-then-stands_at c = (
  λ yes. absurd (false≢true yes),
  λ none. let x = get_or c.args.a.now c.loop-x.x-index 0 in
      absurd (both_ways _ (apart_at c.args.a.now c.args.b.now none x (is_member-get_or c.args.a.now c.loop-x.x-index x c.loop-x-test.true refl))
      (sym c.stands_at.ensures ∙ c.if-stands_at.true)),
)

pub loop-x-preserved : goal.loop-x-preserved
loop-x-preserved c = record {
  so_far = intersection-skip c.args.a.now c.args.b.now c.loop-x.x-index c.loop-x-test.true (sym c.stands_at.ensures ∙ c.if-stands_at.false)
      ∙ c.loop-x.invariant.so_far;
  inside = c.advance-j.ensures.inside;
  low = λ k i p q l.
      let above = RisesFrom-index 0 c.args.a.now c.loop-x.x-index i c.requires.a_rises.rises (omega arith) l in
      omega (arith, c.advance-j.ensures.low k p);
}

pub returns : goal.returns
returns c = (
  λ yes. ap (λ s. intersection s c.args.b.now) (sym (take_all c.loop-x.x-index c.args.a.now c.loop-x-test.false)) ∙ c.loop-x.invariant.so_far,
  λ none. refl,
)
