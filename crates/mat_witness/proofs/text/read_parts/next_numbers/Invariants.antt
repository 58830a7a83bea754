use Rattle.mat_witness.proofs.Common.{◌≡◌, ◌-◌, words_left, repeat_at, with_front, below_at}
use Rattle.mat_witness.proofs.text.read_parts.next_numbers.Given as goal

-- the numbers so far and those that are still read are those that are read in all
abbrev pub invariant-loop : goal.invariant-loop
invariant-loop l =
    with_front l.numbers.items (repeat_at (below_at l.bound) (l.many - l.counter) (words_left l.rest))
    ≡ repeat_at (below_at l.bound) l.many (words_left l.fn.words)
