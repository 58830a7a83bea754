use Rattle.mat_words.proofs.Common.{◌≡◌, ◌<◌, ◌^◌, take, true, is_digit, value_of}
use Rattle.std.specs.List.{list_all}
use Rattle.mat_words.proofs.numbers.short_magnitude.Given as goal

abbrev pub invariant-loop-c : goal.invariant-loop-c
invariant-loop-c l = record {
  digits : list_all is_digit (take l.c-index l.digits) ≡ true;
  value : l.n ≡ value_of (take l.c-index l.digits);
  small : l.n < 10 ^ l.c-index;
}
