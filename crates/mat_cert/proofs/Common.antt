-- The names that the proofs of this crate take from elsewhere and from its specs, passed on from one place. Declares nothing.
pub use Rattle.std.proofs.Common.{Bool, Err, IfOk, List, None, Ok, Option, Result, Some, [], ap, append-nil, append_assoc, arith, bytes_eq, codes, cond, eq-eqb, eqb, eqb-true, false, get_or, inl, inr, length, length-append, length-take, map, nat_lt, ne_eqb, neg_ℤ, negsuc, pos, refl, rules}
pub use Rattle.std.proofs.Common.{slice_get, subst, suc, sym, take, true, zero, zero-add, ℕ, ℤ, ◌*◌, ◌++◌, ◌+◌, ◌-◌, ◌<ℤ◌, ◌<◌, ◌^◌, ◌∙◌, ◌∷◌, ◌≡◌, ◌≢◌, ◌≤ℤ◌, ◌≤◌, ◌⊎◌}
pub use Rattle.std.proofs.lemmas.Bool.{and_from, and_parts}
pub use Rattle.std.proofs.lemmas.Int.{ints}
pub use Rattle.std.proofs.lemmas.Int.Digits.{length-digits_of-le}
pub use Rattle.std.proofs.lemmas.List.{length-map, map-append, nil_from_length, take_more}
pub use Rattle.std.proofs.lemmas.List.Elements.{All-append, All-cons, All-get_or, All-head, All-map, All-nil, All-tail, All-weaker}
pub use Rattle.std.proofs.lemmas.Option.{get_or_from_slice_get, slice_get_within}
pub use Rattle.std.proofs.lemmas.Result.{err_from_is_err_and}
pub use Rattle.std.proofs.lemmas.Slice.Eq.{bytes_eq-Decides, slice_eq-Decides}
pub use Rattle.mat_sets.specs.Limits.{largest_number, most_elements, most_matroids, most_trees, most_vertices}
pub use Rattle.mat_sets.specs.Sets.{AllBelow, IsSet, RisesFrom}
unfoldable pub use Rattle.mat_sets.specs.Sets.{with_one}
pub use Rattle.mat_sets.specs.declared.weight.Weight.{Weight}
pub use Rattle.mat_words.specs.Cursors.{LinesLeft, WordsLeft, lines_left, parts_left, words_left}
pub use Rattle.mat_words.specs.Lines.{Line, lines_of, text_of}
pub use Rattle.mat_words.specs.Numbers.{number_of, numeral, numerals}
pub use Rattle.mat_words.specs.Reading.{Fails, Gives, is_closed}
pub use Rattle.mat_words.specs.Steps.{◌>>=◌}
unfoldable pub use Rattle.mat_words.specs.Steps.{repeat_at}
pub use Rattle.mat_words.specs.Weights.{weight_word}
pub use Rattle.mat_words.specs.Words.{is_space, is_word, parts_of}
pub use Rattle.mat_words.specs.Writing.{end_line, members_line, text_word, weights_line}
pub use Rattle.mat_words.proofs.LineLemmas.{same_text, text_of-append}
pub use Rattle.mat_words.proofs.LineReading.{AreLeft, closed_left, keyed_again, keyed_found, known_line}
pub use Rattle.mat_words.proofs.NumberLemmas.{numeral_word, read_again}
pub use Rattle.mat_words.proofs.ReadingSteps.{bind_found, found, found-same, refused_found, test_found, told_again, told_fails, told_found}
pub use Rattle.mat_words.proofs.Repeats.{repeat_done, repeat_more, repeat_refused, with_front, with_front-cons}
pub use Rattle.mat_words.proofs.WordReading.{IsBelowRead, IsSizeRead, IsWeightRead, below_again, below_found, none_left, number_at_again, number_found, numerals_words, size_again, size_found, some_left, weight_at_again, weight_found, weights_again, weights_found, weights_words, word_found}
pub use Rattle.mat_words.proofs.WrittenLines.{item_written, line_written, words_written}
pub use Rattle.mat_cert.specs.Certificates.{AreRangedNone, AreRangedRungs, AreRangedSets, AreRangedTrees, Certificate, IsCertificateWeight, IsPrinted, IsPrintedRung, IsPrintedWeight, IsRanged, IsRangedArborescence, IsRangedAssignment, IsRangedCover, IsRangedLadder, IsRangedLevel, IsRangedOption}
pub use Rattle.mat_cert.specs.Certificates.{IsRangedPacking, IsRangedPart, IsRangedPlainRung, IsRangedPricedRung, IsRangedRainbow, IsRangedRung, IsRangedUnion, IsRangedUnreached, IsVertexCount, arbor, assign, best, certificate_lines, cover, cover_never, disjoint, disjoint_none, header_line}
pub use Rattle.mat_cert.specs.Certificates.{intersect, is_short_of_tree, last_rung, level_line, option_lines, pack, pack_any, plain_rung_lines, priced_rung_lines, rainbow, rung_line, rungs_lines, sets_lines, trees, trees_none, union_of, unreached, version_line}
unfoldable pub use Rattle.mat_cert.specs.Certificates.{certificate_text}
pub use Rattle.mat_cert.specs.Faults.{CertRefusal, Fault, kind_of, refusal_of}
pub use Rattle.mat_cert.specs.Limits.{certificate_limit, most_colours, most_columns, most_levels, most_rows}
pub use Rattle.mat_cert.specs.LineReading.{below_at, keyed_at, number_at, sets_at, size_at, weight_at, weights_at, word_at}
unfoldable pub use Rattle.mat_cert.specs.LineReading.{all_members_at, all_weights_at, closed_at, counted_at, counted_set_at, end_at, fixed_at, has_words, level_at, members_from, option_at, part_at, set_at, version_at}
pub use Rattle.mat_cert.specs.Reading.{read_of}
unfoldable pub use Rattle.mat_cert.specs.Reading.{answer_at, answer_of_command, arbor_at, arborescence_at, assign_at, bases_at, best_at, certificate_at, classes_at, cover_at, covering_at, disjoint_at, entered_at, found_trees_at, intersect_at, ladder_at, never_at, pack_at, plain_rung_at}
unfoldable pub use Rattle.mat_cert.specs.Reading.{priced_rung_at, rainbow_at, rung_at, rungs_at, trees_at, union_at, unreached_at}
pub use Rattle.mat_cert.specs.declared.answer.LevelLine.{LevelLine}
pub use Rattle.mat_cert.specs.declared.answer.PlainRung.{PlainRung}
pub use Rattle.mat_cert.specs.declared.answer.PricedRung.{PricedRung}
pub use Rattle.mat_cert.specs.declared.refusal.CertKind.TheVariants.{AfterEnd, NotRising, UnknownWord, WrongCount}
