use Rattle.mat_reasons.proofs.Common.{sym, subst, AllBelow, IsSet, IsSet-minus}
use Rattle.mat_reasons.proofs.cuts.all_but.Goals as goal

pub returns : goal.returns
returns g c =
    let n = g.M.Matroid.ground_size c.args.m.now in
    let all = subst (λ k. IsSet k c.in_ok-all.all) c.size.ensures c.in_ok-all.ensures.set in
    subst (AllBelow n) (sym c.in_ok-rest.ensures.members) (IsSet-minus n c.in_ok-all.all c.args.set.now all).below
