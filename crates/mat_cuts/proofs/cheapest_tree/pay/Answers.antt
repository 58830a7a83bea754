-- The least of the arcs that enter the set costs no more than any of them, so its cost can be taken from all; where it is 0, nothing is to be paid.
use mir.Syntax.{w128}
use Rattle.mat_cuts.proofs.Common.{◌≡◌, ◌∙◌, pos, inr, subst, arith, to_z, of_z, ints, get_or_default, is_member, below_member, cost_at, IsListed}
use Rattle.mat_cuts.proofs.cheapest_tree.pay.Goals as goal

pub index-least-requires : goal.index-least-requires
index-least-requires c =
    let below = below_member c.requires.set c.requires.least.member in
    omega (arith, c.args.raised.now.reduced.ok.0)

pub list_set-requires-clause-enough : goal.list_set-requires-clause-enough
list_set-requires-clause-enough c = λ b m.
    let reduced = c.args.raised.now.reduced.items in
    let below = below_member c.requires.set c.requires.least.member in
    let read = c.index-least.ensures ∙ get_or_default reduced c.args.a c.index-least.result.now (pos 0) below in
    let cost = c.requires.range c.args.a below in
    let least = c.requires.least.least b m in
    omega (arith, ints)

pub returns-in_ok-list_set : goal.returns-in_ok-list_set
returns-in_ok-list_set c =
    let before = c.args.raised.now in
    let after = c.list_set.new.raised in
    let path = c.args.path.now in
    let entering = c.args.entering.now in
    let reduced = before.reduced.items in
    let below = below_member c.requires.set c.requires.least.member in
    let read = c.index-least.ensures ∙ get_or_default reduced c.args.a c.index-least.result.now (pos 0) below in
    let cost = c.requires.range c.args.a below in
    let some = c.if-least-gt0.true in
    let value : to_z w128 (of_z w128 c.index-least.result.now) ≡ cost_at reduced c.args.a = omega (arith, ints) in
    inr (
      omega (arith, ints),
      subst (λ z. IsListed (λ b. is_member b entering) path.place.items path.last z before after) value c.in_ok-list_set.ensures,
    )
