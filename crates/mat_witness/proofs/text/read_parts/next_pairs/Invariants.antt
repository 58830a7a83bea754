use Rattle.mat_witness.proofs.Common.{◌≡◌, ◌-◌, words_left, repeat_at, with_front, pair_at}
use Rattle.mat_witness.proofs.text.read_parts.next_pairs.Given as goal

-- the pairs so far and those that are still read are those that are read in all
abbrev pub invariant-loop : goal.invariant-loop
invariant-loop l =
    with_front l.pairs.items (repeat_at (pair_at l.count l.vertices) (l.many - l.counter) (words_left l.rest))
    ≡ repeat_at (pair_at l.count l.vertices) l.many (words_left l.fn.words)
