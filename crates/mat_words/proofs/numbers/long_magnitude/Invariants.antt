use Rattle.mat_words.proofs.Common.{◌≡◌, min, take, true, is_digit, value_of, magnitude_bound}
use Rattle.std.specs.List.{list_all}
use Rattle.mat_words.proofs.numbers.long_magnitude.Given as goal

abbrev pub invariant-loop-c : goal.invariant-loop-c
invariant-loop-c l = record {
  digits : list_all is_digit (take l.c-index l.digits) ≡ true;
  value : l.n ≡ min (value_of (take l.c-index l.digits)) magnitude_bound;
}
