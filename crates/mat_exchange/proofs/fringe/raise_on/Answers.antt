use Rattle.mat_exchange.proofs.Common.{List, ◌<◌, sym, subst, ap, ◌∙◌, length-set, largest_number, ◌⊕◌, weight_at, IsWeightWithin, Weight}
use Rattle.mat_exchange.proofs.Raising.{raised_to_here, raised_to_next, sums_fit}
use Rattle.mat_exchange.proofs.fringe.raise_on.Goals as goal

pub add_assign-requires : goal.add_assign-requires
add_assign-requires c =
    let w : List Weight = c.args.weights.now in
    let R = c.args.members.now in
    let x = c.in-Some.x in
    let first = c.in-Some.ensures in
    let small = c.requires.small x first.passes in
    let old = c.loop-x.invariant.weights x ∙ raised_to_here (weight_at w) R c.args.step c.loop-x.from x first.reaches in
    sums_fit _ c.args.step (subst (IsWeightWithin largest_number) (sym old) small) c.requires.step

pub loop-x-preserved : goal.loop-x-preserved
loop-x-preserved c =
    let w : List Weight = c.args.weights.now in
    let R = c.args.members.now in
    let x = c.in-Some.x in
    let d : Weight = c.args.step in
    let first = c.in-Some.ensures in
    let old = c.loop-x.invariant.weights x ∙ raised_to_here (weight_at w) R d c.loop-x.from x first.reaches in
    record {
      length = length-set c.loop-x.weights _ _ ∙ c.loop-x.invariant.length;
      weights = raised_to_next w c.loop-x.weights R d _ c.loop-x.from x first
          (subst (λ n. x < n) (sym c.loop-x.invariant.length) (c.requires.below x first.passes)) c.loop-x.invariant.weights
          (c.add_assign.ensures.after ∙ ap (λ (a : Weight). a ⊕ d) old);
    }
