use Rattle.mat_desc.proofs.Common.{◌≡◌, ◌-◌, true, [], length, words_left, names_of, is_word, names_from}
use Rattle.std.specs.List.{list_all}
use Rattle.mat_desc.proofs.read.notation.next_names.Given as goal

abbrev pub invariant-loop : goal.invariant-loop
invariant-loop l =
    (names_from (l.many - l.counter) (names_of l.names) (words_left l.rest) ≡ names_from l.many [] (words_left l.fn.words))
    × (list_all is_word (words_left l.rest).words ≡ true) × (length (names_of l.names) ≡ l.counter)
