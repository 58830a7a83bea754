use Rattle.mat_minors.proofs.Common.{subst, sym, ap, ◌∙◌, AllBelow, minus, all_below, IsSet-minus, IsSet-all_below}
use Rattle.mat_minors.proofs.DualExchanges.{kept_is}
use Rattle.mat_minors.proofs.dual.DualMatroid.keep.Goals as goal

pub grown_base-requires-clause-below : goal.grown_base-requires-clause-below
grown_base-requires-clause-below g c =
    let n = g.M.Matroid.ground_size c.args.self.now.inner in
    let outside = c.in_ok-outside.ensures.members
    ∙ ap (λ E. minus E c.args.base.now) (c.in_ok-all_below.ensures.members ∙ ap all_below c.size.ensures) in
    subst (AllBelow n) (sym outside) (IsSet-minus n (all_below n) c.args.base.now (IsSet-all_below n)).below

pub returns : goal.returns
returns g c =
    let outside = c.in_ok-outside.ensures.members
    ∙ ap (λ E. minus E c.args.base.now) (c.in_ok-all_below.ensures.members ∙ ap all_below c.size.ensures) in
    kept_is c.lawful.ensures c.args.base.now _ _ c.in_ok-other.other c.in_ok-set.set c.in_ok-marks.marks c.in_ok-columns.columns c.requires.base
    c.new.ensures.members outside c.in_ok-other.ensures.maximal c.in_ok-set.ensures.members c.in_ok-marks.ensures.members c.in_ok-columns.ensures
