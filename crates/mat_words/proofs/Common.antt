-- The names that the proofs of this crate take from elsewhere and from its specs, passed on from one place. Declares nothing.
pub use Rattle.std.proofs.Common.{Bool, Err, IfOk, IsAscii, IsUtf8, List, None, Ok, Option, Result, Some, [], add-one, ap, append-nil, append_assoc, ap₂, arith, bytes_eq, cond, drop, eq-eqb, eqb, eqb-true, false, get_or, get_or-take, if◌then◌else◌, inl, inr, int_le, is_some, le-leb, le-ltb, leb}
pub use Rattle.std.proofs.Common.{leb-true, length, length-append, length-take, lt-ltb, ltb-false, map, min, nat_abs, nat_le, nat_lt, ne_eqb, neg_ℤ, negsuc, not, pos, refl, rules, set, subst, suc, sym, take, take-take, take_all, take_at, true, zero, zero-add, ℕ, ℤ, ◌%◌, ◌&&◌, ◌*◌, ◌++◌, ◌+◌, ◌-ℤ◌}
pub use Rattle.std.proofs.Common.{◌-◌, ◌/◌, ◌<◌, ◌==◌, ◌^◌, ◌||◌, ◌↔◌, ◌∙◌, ◌∷◌, ◌≡◌, ◌≢◌, ◌≤ℤ◌, ◌≤◌, ◌⊎◌}
pub use Rattle.std.proofs.lemmas.Bool.{and_from, and_parts, cases_eq, cases_lt, false_from_ne_true, not-false}
pub use Rattle.std.proofs.lemmas.Grind.{common_steps}
pub use Rattle.std.proofs.lemmas.Int.{ints}
pub use Rattle.std.proofs.lemmas.Int.Digits.{all_below_base_digits_of, digits_of_step, first_digits_of, number_after_ge, number_digits_of, number_push}
pub use Rattle.std.proofs.lemmas.List.{append_cancel_right, at_drop_all, at_drop_more, drop-set, drop_all, drop_more, flat_map_more, get_or_append_left, get_or_push, length_push, map-append, map_push, nil_from_length, take-append-le, take_more, take_rest}
pub use Rattle.std.proofs.lemmas.List.Elements.{All-cons, All-from_recursion, All-head, All-nil, All-push, All-tail, All-weaker}
pub use Rattle.std.proofs.lemmas.List.Splits.{join_with_byte-slice_split, length-slice_split, slice_split_at, slice_split_none}
pub use Rattle.std.proofs.lemmas.Nat.Bits.{bit_at-lt, bit_at_above, bit_at_cat_high, bit_at_lowest, shr_and_one}
pub use Rattle.std.proofs.lemmas.Result.{err_from_is_err_and, on_err_weaker}
pub use Rattle.std.proofs.lemmas.Slice.Eq.{bytes_eq-Decides}
pub use Rattle.mat_sets.specs.declared.weight.Weight.{Weight}
pub use Rattle.mat_words.specs.Binary.{binary, binary_in, binary_value, is_binary}
pub use Rattle.mat_words.specs.Cursors.{LinesLeft, WordsLeft, parts_left, words_left}
pub use Rattle.mat_words.specs.Lines.{AreLines, HasNoNewline, IsFirstLine, Line, is_newline, lines_of, text_of}
pub use Rattle.mat_words.specs.Numbers.{IsBetween, decimal, in_range, is_between, is_counting, is_digit, magnitude_bound, number_in, number_of, numeral, numerals, ranged, value_of}
pub use Rattle.mat_words.specs.Reading.{Fails, Fault, is_closed, item_as, item_at, line_from, refusal_by, told_by}
unfoldable pub use Rattle.mat_words.specs.Reading.{below_at, binary_at, keyed_at, line_at, number_at, size_at, weight_at, weights_at, word_at}
pub use Rattle.mat_words.specs.Steps.{◌>>=◌}
unfoldable pub use Rattle.mat_words.specs.Steps.{repeat_at}
pub use Rattle.mat_words.specs.Weights.{IsWeightBetween, both_in, is_weight_between, tied, untied, weight_in, weight_of_parts, weight_of_word, weight_word}
pub use Rattle.mat_words.specs.Words.{IsWellSpaced, is_byte, is_letter, is_space, is_well_spaced, is_word, parts_of, words_of}
pub use Rattle.mat_words.specs.Writing.{spaced, text_word}
pub use Rattle.mat_words.specs.declared.numbers.NumberFault.{NumberFault}
pub use Rattle.mat_words.specs.declared.numbers.NumberFault.TheVariants.{Range, Spelling}
pub use Rattle.mat_words.specs.declared.refusal.Refusal.{Refusal}
