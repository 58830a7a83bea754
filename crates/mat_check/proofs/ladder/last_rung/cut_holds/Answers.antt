use Rattle.mat_check.proofs.Common.{subst, sym, ◌∙◌, ap, AllBelow, all_below, minus, IsSet-minus, IsSet-all_below}
use Rattle.mat_check.proofs.ladder.last_rung.cut_holds.Goals as goal

pub rank_of-requires-clause-below : goal.rank_of-requires-clause-below
rank_of-requires-clause-below g c κs within =
    let n = g.A.Matroid.ground_size c.args.a.now in
    let rest = c.in_ok-rest.ensures.members
    ∙ ap (λ all. minus all c.args.cut.now) (c.in_ok-all_below.ensures.members ∙ ap all_below c.size.ensures) in
    subst (AllBelow n) (sym rest) (IsSet-minus n (all_below n) c.args.cut.now (IsSet-all_below n)).below
