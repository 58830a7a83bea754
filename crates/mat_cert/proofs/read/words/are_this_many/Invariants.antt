use Rattle.mat_cert.proofs.Common.{◌≡◌, ◌+◌, length, parts_left, words_left}
use Rattle.mat_cert.proofs.read.words.are_this_many.Given as goal

-- the words that are left and those that were cut off are the words of the line
abbrev pub invariant-loop : goal.invariant-loop
invariant-loop l = length (parts_left l.rest) + l.counter ≡ length (words_left l.fn.words).words
