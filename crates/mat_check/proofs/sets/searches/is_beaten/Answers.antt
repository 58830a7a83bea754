use Rattle.mat_check.proofs.Common.{◌≡◌, ◌<◌, length, get_or, subst, sym, ap, ◌∙◌, weight, weight_at, is_below, zero_weight}
use Rattle.mat_check.proofs.Beating.{weight_is_there, weight_beats}
use Rattle.mat_check.proofs.sets.searches.is_beaten.Goals as goal

pub get-most-requires : goal.get-most-requires
get-most-requires g c =
    subst (λ k. k < length c.args.heaviest.now) (sym c.len.ensures.count)
    (weight_is_there c.lawful.ensures (weight_at c.args.weights.now) c.args.heaviest.now c.requires.heaviest c.args.set.now c.requires.passes)

pub returns : goal.returns
returns g c =
    let item : c.get-most.result ≡ get_or c.args.heaviest.now (length c.args.set.now) zero_weight =
    c.get-most.ensures ∙ ap (λ k. get_or c.args.heaviest.now k zero_weight) c.len.ensures.count in
    let told : c.is_lighter.result
    ≡ is_below (weight c.args.weights.now c.args.set.now) (get_or c.args.heaviest.now (length c.args.set.now) zero_weight) =
    c.is_lighter.ensures ∙ ap (is_below (weight c.args.weights.now c.args.set.now)) item in
    told ∙ weight_beats c.lawful.ensures (weight_at c.args.weights.now) c.args.heaviest.now c.requires.heaviest c.args.set.now c.requires.passes
