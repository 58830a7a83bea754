use Rattle.mat_words.proofs.Common.{◌≡◌, ◌<◌, ◌^◌, take, true, is_digit, value_of}
use Rattle.std.specs.List.{list_all}
use Rattle.mat_words.proofs.short_numbers.leading_digits.Given as goal

abbrev pub invariant-loop-i : goal.invariant-loop-i
invariant-loop-i l = record {
  digits : list_all is_digit (take l.i l.bytes) ≡ true;
  value : l.n ≡ value_of (take l.i l.bytes);
  small : l.n < 10 ^ l.i;
}
