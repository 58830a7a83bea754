use Rattle.mat_witness.proofs.Common.{◌≡◌, length, parts_left, words_left, repeat_at, with_front, below_at}
use Rattle.mat_witness.proofs.text.read_parts.all_numbers.Given as goal

-- the numbers so far and those that are still read are those that are read in all
abbrev pub invariant-loop-rest : goal.invariant-loop-rest
invariant-loop-rest l =
    with_front l.numbers.items (repeat_at (below_at l.bound) (length (parts_left l.rest.left)) (words_left l.rest))
    ≡ with_front l.fn.front.items (repeat_at (below_at l.bound) (length (words_left l.fn.words).words) (words_left l.fn.words))

abbrev pub decreases-loop-rest : goal.decreases-loop-rest
decreases-loop-rest l = length (parts_left l.rest.left)
