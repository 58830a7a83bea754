-- The names that the proofs of this crate take from elsewhere and from its specs, passed on from one place. Declares nothing.
pub use Rattle.std.proofs.Common.{Bool, IfOk, List, MatchOption, None, Option, Some, [], ap, arith, cond, drop, eq-eqb, eqb, eqb-true, false, filter, get_or, get_or-set_other, get_or-set_same, if◌then◌else◌, inl, inr, le-leb, le-ltb, leb-true, length, length-set, lt-ltb, ltb, ltb-false, ltb-true}
pub use Rattle.std.proofs.Common.{map, nat_le, nat_lt, not, refl, replicate, rules, set, slice_get, slice_index, slice_index_or, subst, suc, sym, take, take_all, true, zero, ℕ, ◌&&◌, ◌*◌, ◌++◌, ◌+◌, ◌-◌, ◌<◌, ◌==◌, ◌^◌, ◌||◌, ◌↔◌, ◌∙◌, ◌∷◌, ◌≡◌, ◌≢◌, ◌≤◌, ◌⊎◌}
pub use Rattle.std.proofs.lemmas.Bool.{and_from, and_parts, and_right, both_ways, cases_Bool, cases_eq, cases_lt, cond-false, cond-true, false_from_ne_true, false≢true, not-false, not-true, not_from_false, or_cases, or_left, or_right, true_from_ne_false}
pub use Rattle.std.proofs.lemmas.List.{drop_more, get_or-map, get_or-replicate, get_or_append_left, get_or_default, get_or_push, length-map, length-replicate, length_push, same_lists}
pub use Rattle.std.proofs.lemmas.List.Elements.{All-from_get_or, All-get_or, All-head}
pub use Rattle.std.proofs.lemmas.Option.{get_or_from_slice_get, none-some, same_Some, slice_get-get_or, slice_get_cases, slice_get_read, slice_get_within}
pub use Rattle.std.proofs.lemmas.Result.{IfOk-weaker}
pub use Rattle.mat_sets.specs.FallingWeights.{falling_weights, heavy}
pub use Rattle.mat_sets.specs.Families.{AreDisjoint, indicator}
unfoldable pub use Rattle.mat_sets.specs.Families.{family_union, multiplicity}
pub use Rattle.mat_sets.specs.Graphs.{IsGraph, IsSpanningArborescence, IsUnentered, ends_of, enters}
unfoldable pub use Rattle.mat_sets.specs.Graphs.{entering}
unfoldable pub use Rattle.mat_sets.specs.Search.{some_below, those_below}
pub use Rattle.mat_sets.specs.Sets.{AllBelow, IsRising, IsSet, is_member}
unfoldable pub use Rattle.mat_sets.specs.Sets.{all_below, intersection, minus, with_one, without_one}
pub use Rattle.mat_sets.specs.Weights.{is_below, is_same, weight, weight_at, weight_sum, zero_weight, ◌≺◌, ◌≼◌}
pub use Rattle.mat_sets.specs.declared.weight.Weight.{Weight}
pub use Rattle.mat_sets.proofs.Counting.{IsCounted, IsCounted-few, IsCounted-put, IsCounted-skip, IsCounted-start}
pub use Rattle.mat_sets.proofs.Crossings.{is_member-entering, unentered_has_none}
pub use Rattle.mat_sets.proofs.Families.{IsSet-family_union, family_union-gives, multiplicity-at, multiplicity-past}
pub use Rattle.mat_sets.proofs.Ground.{AllBelow-filter, IsSet-all_below, IsSet-length, IsSet-minus, below_member, is_member-all_below, map-all_below_more, map-all_below_none}
pub use Rattle.mat_sets.proofs.Members.{is_member-head, is_member-union, is_member-with_one, member_from_some, place_of_member, some_from_member}
pub use Rattle.mat_sets.proofs.Search.{IsSet-those_below, is_member-those_below, length-those_below, some_below-next, some_below-zero, some_below_from, some_below_none}
pub use Rattle.mat_sets.proofs.Sums.{AllBelow-at}
pub use Rattle.mat_sets.proofs.WeightOrder.{at_most_trans, below_from, below_gives, not_below_from, not_below_gives, same_from, same_gives}
pub use Rattle.mat_laws.specs.Matroids.{IsBase, IsMatroid}
pub use Rattle.mat_laws.specs.Searches.{has_addable, is_beaten}
pub use Rattle.mat_laws.proofs.Independent.{below}
pub use Rattle.mat_laws.proofs.Searches.{IsBase-not_addable, IsHeaviest-not_beaten, not_addable-IsBase, not_beaten-IsHeaviest}
pub use Rattle.mat_count.specs.Partitions.{CappedClasses}
pub use Rattle.mat_count.proofs.LabelClasses.{caps_by-at, length-caps_by}
pub use Rattle.mat_count.proofs.LabelledMatroids.{caps_made, labels_read, test_of}
pub use Rattle.mat_graphic.specs.ForestLaws.{graphic_laws}
pub use Rattle.mat_graphic.specs.Forests.{IsLeastReached, is_graphic}
unfoldable pub use Rattle.mat_graphic.specs.Forests.{least_reached, number_of_components}
pub use Rattle.mat_graphic.specs.declared.graphic.Graphic.{Graphic}
pub use Rattle.mat_union.specs.RightUnions.{AreFalling, IsLevelCut, level_at}
pub use Rattle.mat_union.specs.Unions.{AreMatroids, part_at, ranks_sum, test_at}
pub use Rattle.mat_flow.specs.Digraphs.{DirectedGraph}
pub use Rattle.mat_packing.specs.Trees.{AreTrees, IsRightPartition, crossing, stays}
pub use Rattle.mat_branch.specs.Arborescences.{AreDisjointArborescences, IsSeldomEntered}
pub use Rattle.mat_branch.specs.Spanning.{is_spanning_arborescence}
pub use Rattle.mat_branch.proofs.SpanningTests.{spanning_is_told}
pub use Rattle.mat_any.specs.Trees.{IsSound, Tree, element_count, is_independent}
pub use Rattle.mat_any.specs.Views.{tree_of}
pub use Rattle.mat_greedy.specs.Greedy.{AreHeaviestWeights}
pub use Rattle.mat_work.specs.Rows.{StandFrom}
pub use Rattle.mat_work.proofs.StandingRows.{StandFrom_at, StandFrom_items}
pub use Rattle.mat_arbor.specs.Heads.{cap_at, is_entering_once}
pub use Rattle.mat_arbor.proofs.LeastTrees.{common_from_arborescence, split_is_least}
pub use Rattle.mat_fronts.specs.Assignments.{AreCells, column_at, row_at}
pub use Rattle.mat_fronts.specs.Once.{is_once}
pub use Rattle.mat_fronts.specs.Rainbow.{IsColouring, IsMissingColours, IsRainbowTree, edges_without}
pub use Rattle.mat_fronts.proofs.OnceEach.{once_laws}
pub use Rattle.mat_problem.specs.Instances.{Instance, coloured, graph, list, pair, rooted, table}
pub use Rattle.mat_problem.specs.Soundness.{IsSoundInstance}
pub use Rattle.mat_problem.specs.Validity.{ArePairs, IsValid}
pub use Rattle.mat_problem.proofs.SoundProblems.{IsGraph-pairs, IsSoundInstance-valid}
pub use Rattle.mat_cert.specs.Certificates.{AreRangedRungs, Certificate, IsRanged, IsRangedArborescence, IsRangedCover, IsRangedLadder, IsRangedLevel, IsRangedOption, IsRangedPacking, IsRangedPart, IsRangedPlainRung, IsRangedPricedRung, IsRangedUnion, arbor, assign, best, cover, cover_never}
pub use Rattle.mat_cert.specs.Certificates.{disjoint, disjoint_none, intersect, is_short_of_tree, last_rung, pack, pack_any, rainbow, trees, trees_none, union_of, unreached}
pub use Rattle.mat_cert.specs.declared.answer.LevelLine.{LevelLine}
pub use Rattle.mat_cert.specs.declared.answer.PlainRung.{PlainRung}
pub use Rattle.mat_cert.specs.declared.answer.PricedRung.{PricedRung}
pub use Rattle.mat_right.specs.Right.{AreRightRungs, IsRight, IsRightLadder, IsRightPlainRung, IsRightPricedRung, IsRightRainbow, IsRightUnionAnswer, level_of}
pub use Rattle.mat_check.specs.AnswerClauses.{answer_clauses, clauses_of, failure_of, has_header}
pub use Rattle.mat_check.specs.BeatenRungs.{AreJudged, IsJudged}
pub use Rattle.mat_check.specs.Clauses.{Clause, Failure, best_clauses, cut_clause, failure_at, first_failure, header_clause, heaviest_clause, ladder_clauses, last_clause, numbered_clauses, plain_rung_clauses, priced_rung_clauses, sum_clause}
pub use Rattle.mat_check.specs.Exchanges.{IsLeastWeightOrNone, exceeds_least, exchange_gains, has_lighter, is_gain, least_with}
pub use Rattle.mat_check.specs.Fitting.{fits}
pub use Rattle.mat_check.specs.Halves.{AreListed, AreSumsUnder, half_at, half_of, halves_of}
pub use Rattle.mat_check.specs.Optimal.{AreFewestSets, AreOptimalRungs, IsOptimal, IsOptimalLadder, IsOptimalRainbow}
pub use Rattle.mat_check.specs.RungFailures.{first_in_order, rungs_failures}
pub use Rattle.mat_check.specs.SetClauses.{cover_clauses, cover_cut_clauses, full_clause, independent_clause, level_clause, level_clauses, level_cut_clause, loop_clause, missed_clauses, outside_clause, overlap_clauses, pack_clauses, packing_cut_clause, union_clauses}
pub use Rattle.mat_check.specs.TreeClauses.{arborescence_clause, arborescence_clauses, colours_clauses, cost_clause, crossing_clause, disjoint_clauses, partition_clauses, seldom_entered_clauses, some_clause, tree_clause, trees_clauses}
pub use Rattle.mat_check.specs.declared.ladder.halves.Side.{Side}
