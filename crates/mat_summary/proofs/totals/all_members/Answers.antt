use Rattle.mat_summary.proofs.Common.{◌≡◌, ◌≤◌, List, ℕ, length, get_or, ap, arith, All-get_or, most_elements}
use Rattle.mat_summary.proofs.SummaryTotals.{all_members-more}
use Rattle.mat_summary.proofs.totals.all_members.Goals as goal

pub loop-set-preserved : goal.loop-set-preserved
loop-set-preserved c =
    let sets = c.args.sets.now in
    let i = c.loop-set.set-index in
    let set = c.set-item.result in
    let same : length set ≡ length (get_or sets i set) = ap (λ (s : List ℕ). length s) c.set-item.is in
    let few = All-get_or (λ (s : List ℕ). length s ≤ most_elements) sets i set c.loop-set-test.true c.requires.small in
    let more = all_members-more sets i set c.loop-set-test.true in
    let so_far = c.loop-set.invariant.so_far in
    let small = c.loop-set.invariant.small in
    let count = c.len-count.ensures.count in
    record { so_far = omega arith; small = omega arith }
