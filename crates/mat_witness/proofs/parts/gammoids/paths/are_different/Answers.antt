use Rattle.mat_witness.proofs.Common.{◌≡◌, ◌||◌, true, false, eqb, get_or, take, subst, sym, ap, ◌∙◌, arith, take_all, is_member, AreDistinct, is_member-with_one, are_distinct-from, is_member-take_more, AreDistinct-more, or_commute}
use Rattle.mat_witness.proofs.SourcePaths.{are_distinct-repeated}
use Rattle.mat_witness.proofs.parts.gammoids.paths.are_different.Goals as goal

pub returns-then-contains : goal.returns-then-contains
returns-then-contains c =
    let x = get_or c.args.items.now c.loop-x.x-index 0 in
    let again : is_member x c.loop-x.seen ≡ true = sym c.if-contains.ensures in
    sym (are_distinct-repeated c.args.items.now c.loop-x.x-index c.loop-x-test.true (sym (c.loop-x.invariant.seen x) ∙ again))

pub loop-x-preserved : goal.loop-x-preserved
loop-x-preserved c =
    let items = c.args.items.now in
    let i = c.loop-x.x-index in
    let x = get_or items i 0 in
    let new : is_member x c.loop-x.seen ≡ false = sym c.if-contains.ensures in
    record {
      distinct = AreDistinct-more items i c.loop-x-test.true c.loop-x.invariant.distinct (sym (c.loop-x.invariant.seen x) ∙ new);
      seen = λ v. ap (is_member v) c.in_ok-insert.ensures.ok ∙ is_member-with_one v x c.loop-x.seen
          ∙ ap (λ b. eqb v x || b) (c.loop-x.invariant.seen v) ∙ or_commute (eqb v x) (is_member v (take i items))
          ∙ sym (is_member-take_more items i v c.loop-x-test.true);
    }

pub returns : goal.returns
returns c =
    let all = take_all c.loop-x.x-index c.args.items.now (omega (arith, c.loop-x-test.false)) in
    sym (are_distinct-from c.args.items.now (subst AreDistinct all c.loop-x.invariant.distinct))
