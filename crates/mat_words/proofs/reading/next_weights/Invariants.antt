use Rattle.mat_words.proofs.Common.{◌≡◌, ◌-◌, words_left, repeat_at, weight_at}
use Rattle.mat_words.proofs.Repeats.{with_front}
use Rattle.mat_words.proofs.reading.next_weights.Given as goal

-- the weights so far and those that are still read are the weights that are read in all
abbrev pub invariant-loop : goal.invariant-loop
invariant-loop l =
    with_front l.weights.items (repeat_at (weight_at l.low l.high) (l.count - l.counter) (words_left l.rest))
    ≡ repeat_at (weight_at l.low l.high) l.count (words_left l.fn.words)
