-- The weight of a heaviest set is there for the size of each independent set.
use Rattle.mat_check.proofs.Common.{◌≡◌, ◌<◌, length, get_or, ap, ◌∙◌, arith, weight, weight_at, is_below, zero_weight, IsSet-length, half_of}
use Rattle.mat_check.proofs.Beating.{weight_is_there, weight_beats}
use Rattle.mat_check.proofs.ladder.beaten.is_beaten_by_sums.Goals as goal

pub is_lighter-requires-clause-few : goal.is_lighter-requires-clause-few
is_lighter-requires-clause-few g c = omega (arith, IsSet-length _ _ c.requires.ranged.0.set_in_range, c.requires.few)

pub returns-then-size-len : goal.returns-then-size-len
returns-then-size-len g c = λ passes.
    let half = half_of c.args.side c.args.rung.now in
    let set = c.args.rung.now.set in
    let item : c.get.result ≡ get_or c.args.heaviest.now (length set) zero_weight =
    c.get.ensures ∙ ap (λ k. get_or c.args.heaviest.now k zero_weight) c.len-size.ensures.count in
    c.is_lighter.ensures ∙ ap (λ h. is_below (weight h set) c.get.result) c.half.ensures ∙ ap (is_below (weight half set)) item
    ∙ weight_beats c.lawful.ensures (weight_at half) c.args.heaviest.now c.requires.heaviest set passes

pub returns-else-size-len : goal.returns-else-size-len
returns-else-size-len g c = λ passes.
    let half = half_of c.args.side c.args.rung.now in
    let there : length c.args.rung.now.set < length c.args.heaviest.now =
    weight_is_there c.lawful.ensures (weight_at half) c.args.heaviest.now c.requires.heaviest c.args.rung.now.set passes in
    absurd (omega (arith, there, c.len-size.ensures.count, c.len.ensures, c.if-size-len.false))
