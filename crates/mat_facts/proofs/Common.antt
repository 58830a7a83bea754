-- The names that the proofs of this crate take from elsewhere and from its specs, passed on from one place. Declares nothing.
pub use Rattle.std.proofs.Common.{Bool, List, MatchOption, None, Option, Some, [], ap, arith, cond, eq-eqb, eqb, eqb-true, false, flat_map, get_or, inl, inr, length, lt-ltb, ltb, ltb-false, ltb-true, map, ne_eqb, not, option_map, refl, slice_get, subst, suc, sym, true, zero, ℕ, ⊎_elim, ◌&&◌, ◌*◌}
pub use Rattle.std.proofs.Common.{◌++◌, ◌+◌, ◌-◌, ◌<◌, ◌||◌, ◌∙◌, ◌∷◌, ◌≡◌, ◌≤◌, ◌⊎◌}
pub use Rattle.std.proofs.lemmas.Bool.{and_from, and_parts, both_ways, cases_Bool, cases_eq, cases_lt, false_from_ne_true, not-true, not_from_false, or_cases, or_left, or_right}
pub use Rattle.std.proofs.lemmas.Int.{ints}
pub use Rattle.std.proofs.lemmas.List.{get_or-map, length-map}
pub use Rattle.std.proofs.lemmas.List.Sums.{length-filter, sum_by-cons}
pub use Rattle.std.proofs.lemmas.List.Elements.{All-append, All-cons, All-contains, All-nil, Contains-append_left, Contains-append_right}
pub use Rattle.std.proofs.lemmas.Option.{same_Some, slice_get-map, slice_get_cases, slice_get_within}
pub use Rattle.mat_sets.specs.FallingWeights.{heavy}
pub use Rattle.mat_sets.specs.Families.{indicator}
unfoldable pub use Rattle.mat_sets.specs.Families.{family_union, multiplicity}
pub use Rattle.mat_sets.specs.Graphs.{IsGraph, IsSpanningArborescence, IsUnentered, Reaches, ends_of, enters}
unfoldable pub use Rattle.mat_sets.specs.Graphs.{entering}
pub use Rattle.mat_sets.specs.Sets.{IsRising, IsSet, IsSubset, counted_from, is_member}
unfoldable pub use Rattle.mat_sets.specs.Sets.{all_below, intersection, minus, with_one, without_one}
pub use Rattle.mat_sets.specs.Weights.{is_below, negated, weight, weight_at, weight_sum, zero_weight, ◌≺◌, ◌≼◌, ◌⊕◌}
pub use Rattle.mat_sets.specs.declared.weight.Weight.{Weight}
pub use Rattle.mat_sets.proofs.Crossings.{is_member-entering, unentered_has_none, walk_enters}
pub use Rattle.mat_sets.proofs.DisjointSets.{no_members}
pub use Rattle.mat_sets.proofs.Equalities.{intersection-subset}
pub use Rattle.mat_sets.proofs.Filters.{IsRising-filter, filter_none}
pub use Rattle.mat_sets.proofs.Ground.{IsRising-all_below, IsSet-all_below, IsSet-length, IsSet-minus, IsSet-nil, IsSet-subset, below_member, is_member-all_below}
pub use Rattle.mat_sets.proofs.Members.{IsRising-intersection, IsRising-with_one, IsRising-without_one, is_member-filter, is_member-head, is_member-minus, is_member-with_one, is_member-without_one, member_from_some, only_member, same_members, some_from_member}
pub use Rattle.mat_sets.proofs.Search.{IsSet-those_below}
pub use Rattle.mat_sets.proofs.Subsets.{IsSubset-refl, intersection-left, intersection-right, same_size_subset, subset_or}
pub use Rattle.mat_sets.proofs.WeightOrder.{at_most_not, at_most_same, at_most_trans, below_from, below_gives, not_below_from, not_below_gives, pairs}
pub use Rattle.mat_sets.proofs.WeightSums.{weight_sum-plus, weight_sum-same}
pub use Rattle.mat_laws.specs.Matroids.{IsBase, IsLoop, IsMatroid}
unfoldable pub use Rattle.mat_laws.specs.Ranks.{rank}
pub use Rattle.mat_laws.proofs.Independent.{IsGrown, grow_to_size, rising}
pub use Rattle.mat_laws.proofs.Maximal.{IsBase-maximal, IsMaximal-base, base_largest}
pub use Rattle.mat_laws.proofs.RankLaws.{maximal_in, rank-maximal, rank_is}
pub use Rattle.mat_graphic.specs.Forests.{is_graphic}
unfoldable pub use Rattle.mat_graphic.specs.Forests.{number_of_components}
pub use Rattle.mat_union.specs.RightUnions.{IsBestUnion, IsLevelCut, level_at}
pub use Rattle.mat_union.specs.Unions.{AreMatroids, AreParts, part_at, ranks_sum, test_at}
pub use Rattle.mat_union.proofs.Dominated.{weighs}
pub use Rattle.mat_packing.specs.Packings.{AreBases, IsCover, IsRightCovering, IsRightPacking}
pub use Rattle.mat_packing.specs.Trees.{AreTrees, IsRightPartition, crossing}
pub use Rattle.mat_packing.proofs.Copies.{covering_is_least, loop_has_no_cover, packing_is_most, rank_none}
pub use Rattle.mat_branch.specs.Arborescences.{AreDisjointArborescences, IsSeldomEntered}
pub use Rattle.mat_any.specs.Trees.{IsSound, Tree, element_count, is_independent}
pub use Rattle.mat_arbor.specs.Heads.{is_entering_once}
pub use Rattle.mat_arbor.proofs.LeastTrees.{common_from_arborescence}
pub use Rattle.mat_fronts.specs.Assignments.{column_at, row_at}
pub use Rattle.mat_fronts.specs.Once.{is_once}
pub use Rattle.mat_fronts.proofs.Ladders.{missing_colours_exclude, tree_is_common}
pub use Rattle.mat_problem.specs.Instances.{Instance, coloured, graph, list, pair, rooted, table}
pub use Rattle.mat_problem.specs.Validity.{IsValid}
pub use Rattle.mat_cert.specs.Certificates.{Certificate, arbor, assign, best, cover, cover_never, disjoint, disjoint_none, intersect, last_rung, pack, pack_any, rainbow, trees, trees_none, union_of, unreached}
pub use Rattle.mat_cert.specs.declared.answer.LevelLine.{LevelLine}
pub use Rattle.mat_cert.specs.declared.answer.PlainRung.{PlainRung}
pub use Rattle.mat_cert.specs.declared.answer.PricedRung.{PricedRung}
pub use Rattle.mat_right.specs.Right.{AreRightRungs, IsRight, IsRightLadder, IsRightRainbow, IsRightUnionAnswer, level_of}
pub use Rattle.mat_check.specs.Optimal.{AreFewestSets, AreMostBases, AreOptimalRungs, IsLeastArborescence, IsOptimal, IsOptimalLadder, IsOptimalRainbow}
pub use Rattle.mat_check.proofs.ValidGraphs.{coloured_is_coloured, coloured_is_graph, graph_is_graph, root_is_below, rooted_is_graph}
pub use Rattle.mat_facts.specs.Allowances.{AddUp, AllowsAtMost, HasFewAbove}
pub use Rattle.mat_facts.specs.Answers.{AreAllowedRungs, IsAllowedRung, plain_rung, rungs_of}
pub use Rattle.mat_facts.specs.Facts.{Fact, allowed, at_most, between, entered_by, falls_apart, few_above, full, in_parts, none_gains, shared, without_root}
pub use Rattle.mat_facts.specs.Holding.{AreGroups, Holds}
pub use Rattle.mat_facts.specs.Problems.{AllAllow, rule_at, rule_count, rules_of, size_of, weights_of}
pub use Rattle.mat_facts.specs.Reasons.{are_costs, colours_facts, costs_facts, cut_facts, ladder_facts, last_facts, level_facts, level_most_facts, reason_of, rung_facts, shares_of, size_facts, sizes_facts, told_sizes, whole_facts}
pub use Rattle.mat_facts.specs.Sufficing.{BoundsEachSize, BoundsLarger, BoundsLevel, BoundsSize, BoundsSmaller, DividesElements, IsNothing, ShowsCheapestReach, ShowsEachRung, ShowsNoArborescences, ShowsNoCheaper, ShowsNoFewerSets, ShowsNoHeavier, ShowsNoLarger, ShowsNoMoreBases, ShowsNoRainbowTree, ShowsNoTrees, ShowsUnion}
pub use Rattle.mat_facts.specs.Sufficing.{Suffice}
pub use Rattle.mat_facts.specs.Terms.{falling_terms, list_at, put_falling, step_at}
