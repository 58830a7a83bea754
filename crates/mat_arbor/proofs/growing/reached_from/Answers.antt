use Rattle.mat_arbor.proofs.Common.{◌∙◌, ◌-◌, ◌<◌, ℕ, suc, List, ap, length, subst, sym, arith, ends_of, with_one, length-with_one, IsGrownTree}
use Rattle.mat_arbor.proofs.GrownTrees.{IsGrownTree-root, IsGrownTree-more, grown_size}
use Rattle.mat_arbor.proofs.growing.reached_from.Goals as goal

pub loop-a-init : goal.loop-a-init
loop-a-init c =
    IsGrownTree-root (length c.args.arcs.now) (ends_of c.args.arcs.now) c.args.root c.add.new.self
    (c.in_ok-add.ensures.ok.1 ∙ ap (λ (s : List ℕ). with_one s c.args.root) c.new-reached.ensures.members)

pub loop-a-smaller : goal.loop-a-smaller
loop-a-smaller c =
    let h = c.in-Some.ensures in
    let more = IsGrownTree-more c.loop-a.invariant c.in-Some.a h.0 h.1 in
    let less : suc (length c.args.arcs.now) - length c.add-in-Some.new.self < suc (length c.args.arcs.now) - length c.loop-a.reached = omega (
      arith,
      ap length c.in_ok-add-2.ensures.ok.1,
      length-with_one c.loop-a.reached (ends_of c.args.arcs.now c.in-Some.a).1 c.loop-a.invariant.rises h.1.to,
      grown_size more,
    ) in
    less

pub loop-a-preserved : goal.loop-a-preserved
loop-a-preserved c =
    let h = c.in-Some.ensures in
    let more = IsGrownTree-more c.loop-a.invariant c.in-Some.a h.0 h.1 in
    subst (λ (s : List ℕ). IsGrownTree (length c.args.arcs.now) (ends_of c.args.arcs.now) c.args.root s) (sym c.in_ok-add-2.ensures.ok.1) more
