use Rattle.mat_gen.proofs.Common.{◌≡◌, ◌+◌, ◌*◌, ◌<◌, ◌∙◌, ap, arith, pair_drawn, pairs_drawn}
use Rattle.mat_gen.proofs.Draws.{drawn_more, drawn_none, number_read, numbers_long, pair_made}
use Rattle.mat_gen.proofs.generator.pairs.Goals as goal

pub loop-i-init : goal.loop-i-init
loop-i-init c =
    let args = c.args in
    drawn_none (λ e. pair_drawn args.seed (args.each * e + args.place) args.below) _ c.new-pairs.ensures.items

pub loop-i-preserved : goal.loop-i-preserved
loop-i-preserved c =
    let args = c.args in
    let place = args.place in
    let below = args.below in
    let i = c.loop-i.i in
    let long = numbers_long args.seed args.count args.each place below _ c.in_ok-first.ensures in
    let here : i < args.count = omega (arith, c.loop-i-test.true, c.len-i-end.ensures, long) in
    let first = number_read args.seed args.count args.each place below i _ _ c.in_ok-first.ensures here c.index.ensures in
    let second = number_read args.seed args.count args.each (place + 1) below i _ _ c.in_ok-second.ensures here c.index-in-loop-i.ensures in
    c.in_ok-push.ensures.items ∙ drawn_more (λ e. pair_drawn args.seed (args.each * e + place) below) i _ _ c.loop-i.invariant
    (pair_made args.seed (args.each * i + place) (args.each * i + (place + 1)) below _ _ first second (omega arith))

pub returns : goal.returns
returns c =
    let args = c.args in
    let long = numbers_long args.seed args.count args.each args.place args.below _ c.in_ok-first.ensures in
    let all : c.loop-i.i ≡ args.count = omega (arith, c.loop-i.auto.i-end, c.loop-i-test.false, c.len-i-end.ensures, long) in
    c.new.ensures ∙ c.loop-i.invariant ∙ ap (λ n. pairs_drawn args.seed n args.each args.place args.below) all
