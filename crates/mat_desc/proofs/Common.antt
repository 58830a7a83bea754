-- The names that the proofs of this crate take from elsewhere and from its specs, passed on from one place. Declares nothing.
pub use Rattle.std.proofs.Common.{All, Bool, Err, IfOk, IfSome, List, MatchOption, None, Ok, Option, Result, Some, [], ap, append-nil, append_assoc, ap₂, arith, bytes_eq, codes, cond, drop, eq-eqb, eqb, eqb-true, false, get_or, get_or-drop, get_or-take, if◌then◌else◌, inl, inr, is_some, le-leb}
pub use Rattle.std.proofs.Common.{le-ltb, length, length-append, length-drop, length-take, lt-ltb, map, min, nat_le, nat_lt, neg_ℤ, pos, refl, rules, subst, suc, sym, take, take_all, true, zero, ℕ, ◌&&◌, ◌*◌, ◌++◌, ◌+◌, ◌-◌, ◌<◌, ◌^◌, ◌||◌, ◌↔◌, ◌∙◌, ◌∷◌, ◌≡◌, ◌≤◌, ◌⊎◌}
pub use Rattle.std.proofs.lemmas.Bool.{and_from, and_parts, both_ways, cases_Bool, cases_eq, cases_lt, false_from_ne_true, not-false, not-true, or_cases, or_left, or_parts, or_right}
pub use Rattle.std.proofs.lemmas.Int.{ints}
pub use Rattle.std.proofs.lemmas.List.{get_or-map, get_or_past, length-map, length_push, map-append}
pub use Rattle.std.proofs.lemmas.List.Elements.{All-cons, All-from_get_or, All-head, All-nil, All-tail, All-weaker}
pub use Rattle.std.proofs.lemmas.Result.{err_from_is_err_and}
pub use Rattle.std.proofs.lemmas.Slice.Eq.{bytes_eq-Decides}
pub use Rattle.std.proofs.lemmas.Slice.Zip.{firsts-zip, get_or-zip, length-zip, seconds-zip}
pub use Rattle.mat_sets.specs.Limits.{largest_weight, most_elements, most_matroids, most_vertices}
pub use Rattle.mat_sets.specs.Rows.{row_at}
pub use Rattle.mat_sets.specs.Sets.{AllBelow, AreDistinct, IsRising, IsSet, is_member}
unfoldable pub use Rattle.mat_sets.specs.Sets.{all_below, with_one}
pub use Rattle.mat_sets.specs.Weights.{zero_weight}
pub use Rattle.mat_sets.specs.declared.weight.Weight.{Weight}
pub use Rattle.mat_sets.proofs.Ground.{AllBelow-from_members, AllBelow-member, AreDistinct-rising, IsSet-from, get_or-all_below, length-all_below, map-all_below_more, map-all_below_none}
pub use Rattle.mat_sets.proofs.Sums.{AllBelow-at}
pub use Rattle.mat_count.specs.LaminarMatroids.{IsLaminar, IsPlaceTable}
pub use Rattle.mat_count.proofs.CrossedSets.{IsLaminarFamily-free, IsLaminarFamily-more, IsLaminarFamily-nil, is_crossed-search}
pub use Rattle.mat_any.specs.Trees.{Tree, Trees, contract, depth, dual, gammoid, gf2, graphic, greatest_depth, laminar, more_trees, no_trees, partition, restrict, transversal, tree_count, trees_from, truncate, uniform, union}
pub use Rattle.mat_any.specs.Views.{tree_of}
pub use Rattle.mat_any.specs.declared.any.AnyMatroid.{AnyMatroid, the_lemmas}
pub use Rattle.mat_words.specs.Cursors.{LinesLeft, WordsLeft, lines_left, parts_left, words_left}
pub use Rattle.mat_words.specs.Lines.{Line, lines_of, text_of}
pub use Rattle.mat_words.specs.NameLists.{names_of}
pub use Rattle.mat_words.specs.Names.{AreNames, is_among, is_name, longest_name, name_index, with_name}
pub use Rattle.mat_words.specs.Numbers.{number_of, numeral, numerals}
pub use Rattle.mat_words.specs.Reading.{Fails, Gives, is_closed}
pub use Rattle.mat_words.specs.Steps.{◌>>=◌}
unfoldable pub use Rattle.mat_words.specs.Steps.{repeat_at}
pub use Rattle.mat_words.specs.Weights.{weight_word}
pub use Rattle.mat_words.specs.Words.{is_letter, is_word}
pub use Rattle.mat_words.specs.Writing.{end_line, spaced, weights_line}
pub use Rattle.mat_words.proofs.ItemLines.{IsItemRead, items_again, items_found}
pub use Rattle.mat_words.proofs.LineLemmas.{same_text, text_of-append}
pub use Rattle.mat_words.proofs.LineReading.{AreLeft, closed_left, keyed_again, keyed_words, known_line, line_again}
pub use Rattle.mat_words.proofs.NameLemmas.{is_among-later, is_name-parts, is_name-short, name_index-at, name_index-found, name_word, names-push, names_words, no_names}
pub use Rattle.mat_words.proofs.NumberLemmas.{numeral_word, read_again}
pub use Rattle.mat_words.proofs.ReadingSteps.{bind_found, found, found-same, refused_found, test_found, told_found}
pub use Rattle.mat_words.proofs.Repeats.{repeat_done, repeat_more, repeat_refused, with_front, with_front-cons}
pub use Rattle.mat_words.proofs.WordReading.{below_again, none_left, numerals_words, size_again, some_left, weight_at_again, weights_again, weights_words, word_again, word_found}
pub use Rattle.mat_words.proofs.WrittenLines.{item_written, words_done, words_written}
pub use Rattle.mat_problem.specs.Instances.{Instance, coloured, graph, list, pair, rooted, table}
pub use Rattle.mat_problem.specs.Limits.{deepest, most_arcs, most_digits, most_sets}
pub use Rattle.mat_problem.specs.Validity.{AreClasses, AreNestedSets, AreValidTrees, AreWeights, IsPairBelow, IsValid, IsValidMatroid, IsValidTree, IsWeight}
pub use Rattle.mat_problem.specs.Views.{instance_of}
pub use Rattle.mat_problem.proofs.SoundProblems.{IsBinaryMatrix-columns, IsColumn, IsGraph-pairs}
pub use Rattle.mat_desc.specs.Canonical.{body_lines, canonical_lines, capped_line, capped_lines, header, matroid_lines, tree_lines}
unfoldable pub use Rattle.mat_desc.specs.Canonical.{canonical_text, named_text}
pub use Rattle.mat_desc.specs.EarlierSets.{AreMeeting}
pub use Rattle.mat_desc.specs.Faults.{DescRefusal, Fault, kind_of, refusal_of}
pub use Rattle.mat_desc.specs.Grammar.{CappedLines, FamilyLines, InstanceLines, Lists, MatroidLines, MatroidsLines, Spells, SpellsNamed, TreeLines, coloured_edge_line, column_line, ends_line, listing_line, name_lines, root_lines, root_words, version_line, vertex_name_lines, weighted_line}
pub use Rattle.mat_desc.specs.Notations.{IsNaming, IsNotationFor, NamedInstance, Naming, Notation, count_of_elements, count_of_vertices, element_naming, named_by, names, numbered, numbers, vertex_naming, word_for, words_for}
pub use Rattle.mat_desc.specs.Reading.{TreeReader, WrittenInstance, below_at, binary_at, elements_at, form_at, form_of, keyed_at, keyword_of, kind_at, line_at, matroid_at, named_as, named_of, next_weights_at, read_of, size_at, version_named, version_of, weight_at, word_at, written_of}
unfoldable pub use Rattle.mat_desc.specs.Reading.{class_at, classes_at, closed_at, coloured_at, coloured_edge_at, column_at, contract_at, description_at, distinct_at, dual_at, elements_from, end_at, ended_at, ending_at, ends_at, ends_line_at, gammoid_at, gf2_at, graph_at, graphic_at, header_root_at}
unfoldable pub use Rattle.mat_desc.specs.Reading.{instance_at, laminar_at, list_at, matroid_within, member_at, names_from, names_line_at, nested_set_at, nested_sets_at, notation_at, pair_at, partition_at, restrict_at, root_at, rooted_at, set_line_at, table_at, targets_at, transversal_at}
unfoldable pub use Rattle.mat_desc.specs.Reading.{truncate_at, two_matroids_at, uniform_at, union_at, version_at, vertex_names_at, weighted_at, weights_at}
pub use Rattle.mat_desc.specs.Views.{named_instance, naming, written_instance, written_notation}
pub use Rattle.mat_desc.specs.declared.read.keywords.Form.{Form}
pub use Rattle.mat_desc.specs.declared.read.keywords.Keyword.{Keyword}
pub use Rattle.mat_desc.specs.declared.read.keywords.Version.{Version}
pub use Rattle.mat_desc.specs.declared.refusal.DescKind.TheVariants.{Crossing, NameSpelling, Repeated, TooManyLines, TooManyWords}
