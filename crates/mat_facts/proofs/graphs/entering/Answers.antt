use Rattle.mat_facts.proofs.Common.{◌≡◌, ◌∙◌, ap, arith, cond, length, subst, ends_of, enters, entering, with_one}
use Rattle.mat_sets.specs.Search.{those_below}
use Rattle.mat_sets.proofs.Rounds.{those_below-more, those_below-none}
use Rattle.mat_facts.proofs.graphs.entering.Goals as goal

pub loop-a-init : goal.loop-a-init
loop-a-init c = c.new-found.ensures.members ∙ those_below-none (enters (ends_of c.args.arcs.now) c.args.set.now)

pub loop-a-preserved : goal.loop-a-preserved
loop-a-preserved c =
    those_below-more c.loop-a.a (enters (ends_of c.args.arcs.now) c.args.set.now) c.loop-a.found c.add_if.new.self c.loop-a.invariant
    (c.in_ok-add_if.ensures.ok ∙ ap (λ b. cond b (with_one c.loop-a.found c.loop-a.a) c.loop-a.found) c.enters.ensures)

pub returns : goal.returns
unfolding entering those_below
returns c =
    let arcs = c.args.arcs.now in
    let all : c.loop-a.a ≡ length arcs = omega (arith, c.loop-a-test.false, c.loop-a.auto.a-end, c.len-a-end.ensures) in
    subst (λ n. c.loop-a.found ≡ those_below n (enters (ends_of arcs) c.args.set.now)) all c.loop-a.invariant
