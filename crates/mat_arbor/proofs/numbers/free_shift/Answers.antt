use Rattle.mat_arbor.proofs.Common.{◌∙◌, ℕ, ◌+◌, ◌-◌, ◌*◌, ◌<◌, List, ap, length, refl, sym, arith, minus}
use Rattle.mat_arbor.proofs.Gaps.{free_gap, IsFreeShift-gap}
use Rattle.mat_arbor.proofs.numbers.free_shift.Goals as goal

pub get-requires : goal.get-requires
get-requires c =
    let gap = free_gap (length c.args.held.now) c.in_ok-taken.taken c.in_ok-free.free c.in_ok-taken.ensures.set c.in_ok-taken.ensures.few
    (c.in_ok-free.ensures.members ∙ ap (λ (s : List ℕ). minus s c.in_ok-taken.taken) c.in_ok-all_below.ensures.members) in
    gap.0

pub overflow_sub-result : goal.overflow_sub-result
overflow_sub-result c =
    let gap = free_gap (length c.args.held.now) c.in_ok-taken.taken c.in_ok-free.free c.in_ok-taken.ensures.set c.in_ok-taken.ensures.few
    (c.in_ok-free.ensures.members ∙ ap (λ (s : List ℕ). minus s c.in_ok-taken.taken) c.in_ok-all_below.ensures.members) in
    let below : c.get.result < length c.args.held.now + 1 = (gap.1 c.get.result (sym c.get.ensures.item)).0 in
    let unit = c.requires.unit in
    omega arith

pub returns : goal.returns
returns c =
    let gap = free_gap (length c.args.held.now) c.in_ok-taken.taken c.in_ok-free.free c.in_ok-taken.ensures.set c.in_ok-taken.ensures.few
    (c.in_ok-free.ensures.members ∙ ap (λ (s : List ℕ). minus s c.in_ok-taken.taken) c.in_ok-all_below.ensures.members) in
    let taken = c.in_ok-taken.ensures in
    let j = c.get.result in
    let free = gap.1 j (sym c.get.ensures.item) in
    IsFreeShift-gap c.args.unit c.args.held.now c.requires.unit c.in_ok-taken.taken j (c.args.unit - (j + 1) * 2000000000001)
    (record { set = taken.set; few = taken.few; each = taken.taken }) free.0 free.1 refl
