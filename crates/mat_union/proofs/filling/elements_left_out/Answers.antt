use Rattle.mat_union.proofs.Common.{◌≡◌, ◌∙◌, cond, not, ap, arith, subst, family_union, those_below, is_member, with_one, those_below-more, those_below-none}
use Rattle.mat_union.proofs.filling.elements_left_out.Goals as goal

pub loop-x-init : goal.loop-x-init
loop-x-init c = c.new-set.ensures.members ∙ those_below-none (λ y. not (is_member y (family_union c.args.parts.now)))

pub loop-x-preserved : goal.loop-x-preserved
loop-x-preserved c = those_below-more c.loop-x.x (λ y. not (is_member y (family_union c.args.parts.now))) c.loop-x.set c.add_if.new.self c.loop-x.invariant
    (c.in_ok-add_if.ensures.ok ∙ ap (λ b. cond (not b) (with_one c.loop-x.set c.loop-x.x) c.loop-x.set) c.stands.ensures)

pub returns : goal.returns
returns c =
    let end : c.loop-x.x ≡ c.args.n = omega (arith, c.loop-x-test.false, c.loop-x.auto.x-end) in
    subst (λ k. c.loop-x.set ≡ those_below k (λ y. not (is_member y (family_union c.args.parts.now)))) end c.loop-x.invariant
