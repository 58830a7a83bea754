use Rattle.std.proofs.Common.{◌≡◌, true, ◌++◌, map, length, string_bytes}
use Rattle.std.specs.List.{list_all}
use Rattle.mat_words.specs.Cursors.{parts_left}
use Rattle.mat_words.specs.Words.{is_word, parts_of}
use Rattle.mat_call.proofs.words.words_of.Given as goal

-- the words so far, in front of those that are left, are the words of the line
abbrev pub invariant-loop-left : goal.invariant-loop-left
invariant-loop-left l = record {
  whole : map string_bytes l.texts.items ++ parts_left l.left ≡ parts_of l.line;
  spelled : list_all is_word (parts_left l.left) ≡ true;
}

abbrev pub decreases-loop-left : goal.decreases-loop-left
decreases-loop-left l = length (parts_left l.left)
