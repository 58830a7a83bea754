use Rattle.mat_gen.proofs.Common.{◌≡◌, ◌+◌, ◌*◌, ◌<◌, ◌∙◌, ap, arith, weight_from, weights_from}
use Rattle.mat_gen.proofs.Draws.{drawn_more, drawn_none, number_read, numbers_long, weight_made}
use Rattle.mat_gen.proofs.generator.weights.Goals as goal

pub loop-i-init : goal.loop-i-init
loop-i-init c =
    let args = c.args in
    drawn_none (λ e. weight_from args.seed (args.each * e + args.place) args.many args.zero) _ c.new-weights.ensures.items

pub loop-i-preserved : goal.loop-i-preserved
loop-i-preserved c =
    let args = c.args in
    let place = args.place in
    let i = c.loop-i.i in
    let long = numbers_long args.seed args.count args.each place args.many _ c.in_ok-drawn.ensures in
    let here : i < args.count = omega (arith, c.loop-i-test.true, c.len-i-end.ensures, long) in
    let drawn = number_read args.seed args.count args.each place args.many i _ _ c.in_ok-drawn.ensures here c.index.ensures in
    c.in_ok-push.ensures.items ∙ drawn_more (λ e. weight_from args.seed (args.each * e + place) args.many args.zero) i _ _ c.loop-i.invariant
    (weight_made args.seed (args.each * i + place) args.many args.zero _ _ c.weight_of.ensures drawn)

pub returns : goal.returns
returns c =
    let args = c.args in
    let long = numbers_long args.seed args.count args.each args.place args.many _ c.in_ok-drawn.ensures in
    let all : c.loop-i.i ≡ args.count = omega (arith, c.loop-i.auto.i-end, c.loop-i-test.false, c.len-i-end.ensures, long) in
    c.new.ensures ∙ c.loop-i.invariant ∙ ap (λ n. weights_from args.seed n args.each args.place args.many args.zero) all
