use Rattle.mat_witness.proofs.Common.{◌≡◌, ◌+◌, get_or, take, ap, ◌∙◌, arith, caps_sum}
use Rattle.mat_witness.proofs.CapSums.{caps_sum-more, caps_sum-small}
use Rattle.mat_witness.proofs.NamedSets.{listed_below}
use Rattle.mat_witness.proofs.parts.counted.sum_caps.Goals as goal

pub bounds-caps-i : goal.bounds-caps-i
bounds-caps-i c = listed_below c.as_slice-i-items.ensures.items c.requires.chosen.below c.loop-i-test.true

pub overflow_add-sum : goal.overflow_add-sum
overflow_add-sum c =
    let caps = c.args.caps.now in
    let chosen = c.args.chosen.now in
    let i = c.loop-i.i-index in
    let items = c.as_slice-i-items.ensures.items in
    let inside = rw items at c.loop-i-test.true in
    let before : c.loop-i.sum ≡ caps_sum caps (take i chosen) = c.loop-i.invariant in
    let more = caps_sum-more caps chosen i inside in
    let small = caps_sum-small caps chosen (i + 1) c.requires.small c.requires.few c.requires.chosen in
    rw items (omega arith)

pub loop-i-preserved : goal.loop-i-preserved
loop-i-preserved c =
    let caps = c.args.caps.now in
    let i = c.loop-i.i-index in
    let items = c.as_slice-i-items.ensures.items in
    let inside = rw items at c.loop-i-test.true in
    let before : c.loop-i.sum ≡ caps_sum caps (take i c.args.chosen.now) = c.loop-i.invariant in
    let more = caps_sum-more caps c.args.chosen.now i inside in
    ap (λ s. c.loop-i.sum + get_or caps (get_or s i 0) 0) items ∙ omega arith

pub returns-clause-small : goal.returns-clause-small
returns-clause-small c =
    let before : c.loop-i.sum ≡ caps_sum c.args.caps.now (take c.loop-i.i-index c.args.chosen.now) = c.loop-i.invariant in
    let small = caps_sum-small c.args.caps.now c.args.chosen.now c.loop-i.i-index c.requires.small c.requires.few c.requires.chosen in
    omega arith
