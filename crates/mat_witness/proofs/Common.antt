-- The names that the proofs of this crate take from elsewhere and from its specs, passed on from one place. Declares nothing.
pub use Rattle.std.proofs.Common.{All, Bool, Err, IfNone, IfOk, IfSome, List, MatchOption, None, Ok, Option, Result, Some, [], add-one, ap, append-nil, append_assoc, arith, bit_and, bit_or, codes, cond, drop, drop-cons, eq-eqb, eqb, eqb-true, false, filter, get_or, get_or-set_other, get_or-set_same}
pub use Rattle.std.proofs.Common.{if◌then◌else◌, inl, inr, is_some, le-leb, le-ltb, leb, leb-false, leb-true, length, length-append, length-drop, length-set, length-take, lt-ltb, ltb, ltb-true, map, nat_lt, ne_eqb, not, pos, pow_pos, refl, replicate, reverse, rules, set, slice_get, slice_index_or}
pub use Rattle.std.proofs.Common.{subst, suc, sym, take, take_all, true, zero, ℕ, ◌%◌, ◌&&◌, ◌*◌, ◌++◌, ◌+◌, ◌-◌, ◌<◌, ◌==◌, ◌^◌, ◌||◌, ◌∙◌, ◌∷◌, ◌≡◌, ◌≢◌, ◌≤◌, ◌⊎◌}
pub use Rattle.std.proofs.lemmas.Bool.{and_from, and_left, and_parts, and_right, both_ways, cases_Bool, cases_eq, cases_lt, cases_order, cond-false, cond-true, eqb-false, false_from_ne_true, false≢true, iff_false, lt-leb, not-false, not-true, not_from_false, or_cases, or_from, or_left, or_parts}
pub use Rattle.std.proofs.lemmas.Bool.{or_right, true_from_ne_false}
pub use Rattle.std.proofs.lemmas.Grind.{common_steps, get_or_default_zero}
pub use Rattle.std.proofs.lemmas.List.{drop-map, drop_all, flat_map_more, get_or-map, get_or-replicate, get_or_append_left, get_or_default, get_or_past, get_or_push, length-map, length-replicate, length-reverse, length_push, map-append, nil_from_length, reverse-append, reverse-reverse, take_more}
pub use Rattle.std.proofs.lemmas.List.{take_rest}
pub use Rattle.std.proofs.lemmas.List.Edits.{get_or-remove_above, get_or-remove_below, length-remove, map_over_more}
pub use Rattle.std.proofs.lemmas.List.Elements.{All-append, All-cons, All-filter, All-from_get_or, All-from_recursion, All-get_or, All-head, All-map, All-nil, All-replicate, All-set, All-tail, All-weaker, filter-append, filter_passes}
pub use Rattle.std.proofs.lemmas.List.Folds.{concat-append, list_all_at, list_any_at}
pub use Rattle.std.proofs.lemmas.List.Sums.{AllPass-from_list_all, list_all-from_AllPass}
pub use Rattle.std.proofs.lemmas.Nat.{and_le_l, xor_lt}
pub use Rattle.std.proofs.lemmas.Nat.Bits.{bit_at-lt, bit_at-pow_other, bit_at-pow_same, bit_at_above, bit_at_and, bit_at_or, bit_at_xor, same_from_bits_below}
pub use Rattle.std.proofs.lemmas.Option.{cond_some, none-some, same_Some, slice_get-get_or, slice_get_read}
pub use Rattle.std.proofs.lemmas.Result.{IfOk-weaker, err_from_is_err_and, on_ok_weaker}
pub use Rattle.std.proofs.lemmas.Slice.Eq.{bytes_eq-Decides, slice_eq-Decides}
pub use Rattle.mat_sets.specs.FallingWeights.{falling_weights, heavy, with_weight}
pub use Rattle.mat_sets.specs.Graphs.{IsGraph, ends_of}
pub use Rattle.mat_sets.specs.Limits.{most_elements, most_vertices}
pub use Rattle.mat_sets.specs.Rows.{row_at}
pub use Rattle.mat_sets.specs.Search.{IsFirstFrom}
unfoldable pub use Rattle.mat_sets.specs.Search.{those_below}
pub use Rattle.mat_sets.specs.SetTests.{are_distinct}
unfoldable pub use Rattle.mat_sets.specs.SetTests.{is_set}
pub use Rattle.mat_sets.specs.Sets.{AllBelow, AreDistinct, IsRising, IsSet, IsSubset, RisesFrom, is_member}
unfoldable pub use Rattle.mat_sets.specs.Sets.{all_below, intersection, minus, union, with_one, without_one}
pub use Rattle.mat_sets.specs.Weights.{adds_up, is_below, is_same, weight, weight_at, zero_weight, ◌≼◌, ◌⊕◌}
pub use Rattle.mat_sets.specs.declared.weight.Weight.{Weight}
pub use Rattle.mat_sets.proofs.Cardinalities.{length-minus-intersection, length-with_one, length-without_one}
pub use Rattle.mat_sets.proofs.DisjointSets.{minus_from, minus_parts, no_members}
pub use Rattle.mat_sets.proofs.DistinctLists.{AreDistinct-length, is_member-items, items-rise, length-items}
pub use Rattle.mat_sets.proofs.Filters.{IsRising-filter, IsRising-found, filter-found, filter-passed}
pub use Rattle.mat_sets.proofs.Ground.{AllBelow-append, AllBelow-from_members, AllBelow-member, AllBelow-subset, AreDistinct-rising, IsSet-all_below, IsSet-from, IsSet-length, IsSet-minus, IsSet-nil, IsSet-subset, IsSubset-all_below, below_member, get_or-all_below, get_or-map_all_below}
pub use Rattle.mat_sets.proofs.Ground.{is_member-all_below, length-all_below, length-distinct, length-distinct_below, length-distinct_subset, length-map_all_below, map-all_below_more, map-all_below_none}
pub use Rattle.mat_sets.proofs.ListParts.{is_member-tail}
pub use Rattle.mat_sets.proofs.Members.{IsRising-intersection, IsRising-minus, IsRising-nil, IsRising-union, IsRising-with_one, IsRising-without_one, RisesFrom-index, RisesFrom-weaken, filter_same_at, intersection-none, is_member-filter, is_member-get_or, is_member-head, is_member-intersection}
pub use Rattle.mat_sets.proofs.Members.{is_member-union, is_member-with_one, is_member-without_one, member_from, members_by_place, missing_below, only_member, place_of_member, same_members, set_members, some_from_member, without_one-missing}
pub use Rattle.mat_sets.proofs.Search.{IsSet-those_below, is_member-those_below, some_below_from, some_below_gives, some_below_none}
pub use Rattle.mat_sets.proofs.SetTests.{IsSet-from_test, are_distinct-from, are_distinct-gives, is_set-with_one, test_from-IsSet}
pub use Rattle.mat_sets.proofs.Steps.{AreDistinct-more, intersection-more, is_member-take_more, is_member-take_next, written_back}
pub use Rattle.mat_sets.proofs.Subsets.{IsSubset-trans, intersection-left, intersection-right, length-subset, minus-IsSubset, minus-both, same_size_subset, subset_or, union-left, without_one-IsSubset}
pub use Rattle.mat_sets.proofs.Sums.{AllBelow-at}
pub use Rattle.mat_sets.proofs.Truths.{or_commute, or_none, same_truth}
pub use Rattle.mat_sets.proofs.WeightOrder.{at_most_trans, not_below_from, not_below_gives, same_from, same_gives}
pub use Rattle.mat_laws.specs.Heaviest.{IsHeaviest}
pub use Rattle.mat_laws.specs.Matroids.{IsMatroid, IsMaximal}
unfoldable pub use Rattle.mat_laws.specs.Ranks.{rank}
pub use Rattle.mat_laws.proofs.RankLaws.{rank-maximal}
pub use Rattle.mat_count.specs.Counts.{IsWithinCaps, is_counted, is_uniform, is_within_caps}
pub use Rattle.mat_count.specs.LaminarLaws.{IsWithinCaps-from_test, counted_more, counted_same, test_from-Crosses, test_from-IsWithinCaps}
pub use Rattle.mat_count.specs.LaminarMatroids.{IsLaminar}
pub use Rattle.mat_graphic.specs.ComponentLaws.{constant_on_components, in_tail, least_merged-fixed, least_merged-le, member_within}
pub use Rattle.mat_graphic.specs.ForestLaws.{IsForest-from_test, IsForest-more, IsForest-none, IsForest-subset, graphic_laws, test_from-IsForest}
pub use Rattle.mat_graphic.specs.Forests.{IsForest, IsLeastReached, is_graphic}
unfoldable pub use Rattle.mat_graphic.specs.Forests.{is_forest, least_reached, number_of_components}
unfoldable pub use Rattle.mat_graphic.specs.Mergings.{least_merged}
pub use Rattle.mat_graphic.proofs.ComponentCounts.{AreEndsBelow, IsLeastReached-unique, forest_and_components, least_reached-merged, rank_and_number}
pub use Rattle.mat_gf2.specs.Columns.{IsBinaryMatrix, IsLinearlyIndependent, column_of, is_gf2, xor_of}
unfoldable pub use Rattle.mat_gf2.specs.Columns.{is_linearly_independent}
unfoldable pub use Rattle.mat_gf2.specs.Eliminations.{remainder}
pub use Rattle.mat_gf2.specs.InnerProducts.{inner_product_is_one}
pub use Rattle.mat_gf2.specs.LeadingBitLaws.{bit_cases, leading_bit, leading_bit-is, leading_bit-set, reduced-keeps_clear, xor_cancel}
pub use Rattle.mat_gf2.proofs.InnerProducts.{differ, inner_product_is_one-power, inner_product_is_one-turned, inner_product_is_one-xor, inner_product_is_one-xor_right, inner_product_is_one-zero_right, meet_sum_evenly, zero_from_powers}
pub use Rattle.mat_flow.specs.Paths.{AreDisjointPaths, IsLinking, IsPath, IsPathBetween, IsSeparator, first_of, has_arc, last_of}
pub use Rattle.mat_flow.proofs.PathChoiceLaws.{ends_are_targets}
pub use Rattle.mat_flow.proofs.RouteSearchLaws.{last_of-index}
pub use Rattle.mat_flow.proofs.Rows.{has_arc-more, head_below}
pub use Rattle.mat_linked.specs.GammoidLaws.{gammoid_laws, is_gammoid-from, is_gammoid-gives}
pub use Rattle.mat_linked.specs.Gammoids.{IsGammoid, is_gammoid, is_path, vertices_of}
pub use Rattle.mat_linked.specs.LinkedSetLaws.{AreDistinct-vertices_of, for_more, linked_by, member_vertex, size_of, vertex_member}
pub use Rattle.mat_linked.specs.PathSearchLaws.{is_path-from, is_path-gives, path_below}
pub use Rattle.mat_linked.proofs.VertexSets.{length-vertices_of}
pub use Rattle.mat_any.specs.TreeLaws.{tree_laws}
pub use Rattle.mat_any.specs.Trees.{IsSound, Tree, element_count, gammoid, gf2, graphic, is_independent, laminar, partition, uniform}
pub use Rattle.mat_any.specs.Views.{tree_of}
pub use Rattle.mat_words.specs.Binary.{binary}
pub use Rattle.mat_words.specs.Cursors.{LinesLeft, WordsLeft, lines_left, parts_left, words_left}
pub use Rattle.mat_words.specs.Lines.{Line, lines_of, text_of}
pub use Rattle.mat_words.specs.Numbers.{numeral, numerals}
pub use Rattle.mat_words.specs.Reading.{Fails, Gives}
pub use Rattle.mat_words.specs.Steps.{◌>>=◌}
unfoldable pub use Rattle.mat_words.specs.Steps.{repeat_at}
pub use Rattle.mat_words.specs.Words.{is_word}
pub use Rattle.mat_words.specs.Writing.{end_line, members_line}
pub use Rattle.mat_words.proofs.LineLemmas.{same_text, text_of-append}
pub use Rattle.mat_words.proofs.LineReading.{AreLeft, keyed_again, known_line}
pub use Rattle.mat_words.proofs.NumberLemmas.{numeral_word}
pub use Rattle.mat_words.proofs.ReadingSteps.{bind_found, found-same, told_again, told_fails, told_found}
pub use Rattle.mat_words.proofs.Repeats.{repeat_done, repeat_more, repeat_refused, with_front}
pub use Rattle.mat_words.proofs.WordReading.{below_again, none_left, numerals_words, size_again, some_left}
pub use Rattle.mat_problem.specs.Instances.{Instance, pair}
pub use Rattle.mat_problem.specs.Validity.{IsValid, IsValidTree}
pub use Rattle.mat_problem.proofs.SoundProblems.{IsSoundInstance-valid}
pub use Rattle.mat_cert.specs.Certificates.{Certificate, IsRanged, IsRangedLadder, IsRangedPricedRung, intersect, last_rung}
pub use Rattle.mat_cert.specs.Faults.{CertRefusal, Fault, kind_of, refusal_of, told}
pub use Rattle.mat_cert.specs.LineReading.{below_at, keyed_at, number_at, size_at}
unfoldable pub use Rattle.mat_cert.specs.LineReading.{counted_at, fixed_at, set_at}
pub use Rattle.mat_cert.specs.declared.answer.PricedRung.{PricedRung}
pub use Rattle.mat_cert.proofs.LineLaws.{IsRead, IsReadAgain, closed_again, closed_found, counted_again, counted_found, end_again, end_found, line_read, set_again, set_found}
pub use Rattle.mat_cert.proofs.LineTexts.{five_pieces, line_added}
pub use Rattle.mat_cert.proofs.WordLaws.{below_read, exact_again, exact_found, fixed_again, fixed_found, size_read, then_words, whole_line}
pub use Rattle.mat_witness.specs.BoundParts.{are_closed_off, are_covered, are_zeros, bound_of, caps_sum, count_different, has_own_one, have_equal_labels, is_in_chosen, is_in_either, label_of, shows_bound}
pub use Rattle.mat_witness.specs.Demands.{demand_for}
pub use Rattle.mat_witness.specs.EndSums.{IsSumTable, at_ends}
unfoldable pub use Rattle.mat_witness.specs.EndSums.{end_sum}
pub use Rattle.mat_witness.specs.FilledSets.{AreLargerNamed, AreLargestNamed, AreListed, AreNamed, is_filled, is_unnamed, larger_named, size_named}
unfoldable pub use Rattle.mat_witness.specs.FilledSets.{largest_filled}
pub use Rattle.mat_witness.specs.FreeParts.{bring_vertices, is_end, is_single_end, lists_members, shows_forest, shows_free, shows_paths, shows_probes}
pub use Rattle.mat_witness.specs.GammoidSteps.{AreArcRows, is_open_arc, path_to}
pub use Rattle.mat_witness.specs.Kinds.{has_rung, is_witnessed, is_witnessed_pair}
pub use Rattle.mat_witness.specs.Lines.{binary_line, bound_lines, bounds_lines, free_lines, witness_limit, witness_lines, witness_text}
pub use Rattle.mat_witness.specs.Making.{AreRungBounds, AreWitnessed, IsFilled, IsMeeting, IsRungWitness, IsSplit, IsWitnessed}
pub use Rattle.mat_witness.specs.Parts.{AreSpent, BoundPart, FreePart, IsBoundFor, IsFreeFor, WitnessParts, count, forest, gate, labels, paths, probes, spent, zeros}
unfoldable pub use Rattle.mat_witness.specs.Reading.{binary_line_at, bound_at, bounds_at, free_at, pair_at, parts_at, path_at, read_of, rung_line_at, version_at, witness_at}
pub use Rattle.mat_witness.specs.Rows.{AreOnesOfOthers, IsTaken, evened}
pub use Rattle.mat_witness.specs.Shown.{AreBoundsFor, Demand, IsProved, IsProvedRung, IsRightRungOf, IsShown, IsWitness, IsWitnessFor, are_met, bounded_trees, bounds_common_sets, demand_at, demands_of, demands_under, is_priced, meets, rung_at, shows_common_set}
pub use Rattle.mat_witness.specs.Views.{bound_part, free_part, witness_parts}
pub use Rattle.mat_witness.specs.declared.witness.Most.{Most}
