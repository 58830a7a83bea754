use Rattle.mat_facts.proofs.Common.{subst, sym, ◌∙◌, ap, all_below, minus, IsSet-minus, IsSet-all_below}
use Rattle.mat_sets.specs.Sets.{AllBelow}
use Rattle.mat_facts.proofs.ladders.put_cut.Goals as goal

pub put_most-requires-clause-below : goal.put_most-requires-clause-below
put_most-requires-clause-below g c κs within =
    let n = g.A.Matroid.ground_size c.args.a.now in
    let rest = c.in_ok-rest.ensures.members
    ∙ ap (λ all. minus all c.args.cut.now) (c.in_ok-all_below.ensures.members ∙ ap all_below c.size.ensures) in
    subst (AllBelow n) (sym rest) (IsSet-minus n (all_below n) c.args.cut.now (IsSet-all_below n)).below
