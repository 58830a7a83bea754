use Rattle.mat_command.proofs.Common.{◌≡◌, true, ◌++◌, map, length, string_bytes, parts_left, is_word}
use Rattle.std.specs.List.{list_all}
use Rattle.mat_command.proofs.job_list.first_words.Given as goal

-- the words so far, in front of those that are left, are the words of the line
abbrev pub invariant-loop : goal.invariant-loop
invariant-loop l = record {
  whole : map string_bytes l.texts.items ++ parts_left l.left ≡ parts_left l.fn.words.left;
  spelled : list_all is_word (parts_left l.left) ≡ true;
  counted : length l.texts.items ≡ l.counter;
}
