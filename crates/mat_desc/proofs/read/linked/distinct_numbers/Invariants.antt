use Rattle.mat_desc.proofs.Common.{◌≡◌, ◌-◌, [], distinct_at, words_left, with_front}
use Rattle.mat_desc.proofs.read.linked.distinct_numbers.Given as goal

abbrev pub invariant-loop : goal.invariant-loop
invariant-loop l =
    with_front l.numbers.items (distinct_at l.bound (l.many - l.counter) l.taken (words_left l.rest))
    ≡ distinct_at l.bound l.many [] (words_left l.fn.words)
