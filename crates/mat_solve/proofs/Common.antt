-- The names that the proofs of this crate take from elsewhere and from its specs, passed on from one place. Declares nothing.
pub use Rattle.std.proofs.Common.{All, Bool, Global, List, MatchOption, None, Option, Some, Vec, [], ap, arith, false, get_or, inl, inr, le-leb, le-ltb, leb, length, lt-ltb, ltb-true, map, nat_lt, refl, slice_get, slice_index, subst, suc, sym, take, true, zero, ℕ, ℤ, ◌*◌, ◌+◌, ◌-◌, ◌<◌, ◌^◌, ◌||◌}
pub use Rattle.std.proofs.Common.{◌∙◌, ◌∷◌, ◌≡◌, ◌≤◌}
pub use Rattle.std.proofs.lemmas.Bool.{cases_lt, cases_order, lt-leb}
pub use Rattle.std.proofs.lemmas.Int.{ints}
pub use Rattle.std.proofs.lemmas.List.{get_or-map, get_or_default, length-map}
pub use Rattle.std.proofs.lemmas.Nat.{mul-le}
pub use Rattle.std.proofs.lemmas.Option.{get_or_from_slice_get, same_Some, slice_get-get_or, slice_get_within}
pub use Rattle.mat_sets.specs.Families.{AllRising}
unfoldable pub use Rattle.mat_sets.specs.Families.{family_union, multiplicity}
pub use Rattle.mat_sets.specs.Graphs.{IsUnentered, ends_of}
pub use Rattle.mat_sets.specs.Limits.{largest_number, largest_weight, most_elements, most_trees}
pub use Rattle.mat_sets.specs.Sets.{AllBelow, IsSet, IsSubset, is_member}
unfoldable pub use Rattle.mat_sets.specs.Sets.{all_below}
pub use Rattle.mat_sets.specs.Weights.{AreWeightsWithin, IsWeightWithin, weight, weight_at, ◌≺◌}
pub use Rattle.mat_sets.specs.declared.weight.Weight.{Weight}
pub use Rattle.mat_sets.proofs.Cardinalities.{length-minus-intersection, sum_of-high, sum_of-low}
pub use Rattle.mat_sets.proofs.Families.{IsSet-family_union, length-meeting, multiplicity-nowhere}
pub use Rattle.mat_sets.proofs.Ground.{IsRising-all_below, IsSet-from, IsSet-length, IsSet-subset, below_member, is_member-all_below, length-all_below}
pub use Rattle.mat_sets.proofs.Members.{member_from_some, only_member}
pub use Rattle.mat_sets.proofs.WeightOrder.{weight_within_at}
pub use Rattle.mat_laws.specs.Ladders.{IsCut, split_bound}
pub use Rattle.mat_laws.specs.Matroids.{IsBase, IsLoop, IsMatroid}
pub use Rattle.mat_laws.proofs.RankLaws.{maximal_in, rank-maximal, rank_is}
pub use Rattle.mat_graphic.specs.ForestLaws.{graphic_laws}
pub use Rattle.mat_graphic.specs.Forests.{is_graphic}
pub use Rattle.mat_union.specs.RightUnions.{AreFalling, IsRightUnion, level_at}
pub use Rattle.mat_union.specs.Unions.{AreMatroids, AreParts, part_at}
pub use Rattle.mat_packing.specs.Answers.{HasNoLoop, IsRightCoveringAnswer, IsRightPackingAnswer, IsRightTreesAnswer}
pub use Rattle.mat_any.specs.Trees.{Tree, is_independent, tree_count, uniform}
pub use Rattle.mat_any.specs.Views.{tree_of}
pub use Rattle.mat_greedy.specs.Greedy.{AreHeaviestEach}
pub use Rattle.mat_split.specs.Ladders.{IsBoundedRung, IsLadder}
pub use Rattle.mat_split.specs.declared.ladder.Rung.{Rung}
pub use Rattle.mat_arbor.specs.Arborescences.{IsRightArbor, IsUnreachedSet}
pub use Rattle.mat_fronts.specs.Assignments.{IsAssignmentLadder, column_at, row_at}
pub use Rattle.mat_fronts.specs.Once.{is_once}
pub use Rattle.mat_fronts.specs.Rainbow.{IsMissingColours, IsRainbowLadder}
pub use Rattle.mat_problem.specs.Instances.{Instance, coloured, graph, list, pair, rooted, table}
pub use Rattle.mat_problem.specs.Soundness.{IsSoundInstance}
pub use Rattle.mat_problem.specs.Validity.{IsValid}
pub use Rattle.mat_cert.specs.Certificates.{Certificate, IsCertificateWeight, IsPrinted, IsPrintedRung, IsPrintedWeight, IsRanged, IsRangedLadder, IsRangedLevel, IsRangedOption, IsRangedPart, IsRangedPricedRung, arbor, assign, best, cover, cover_never, disjoint, disjoint_none, intersect}
pub use Rattle.mat_cert.specs.Certificates.{is_short_of_tree, last_rung, pack, pack_any, rainbow, trees, trees_none, union_of, unreached}
unfoldable pub use Rattle.mat_cert.specs.Certificates.{certificate_text}
pub use Rattle.mat_cert.specs.declared.answer.LevelLine.{LevelLine}
pub use Rattle.mat_cert.specs.declared.answer.PlainRung.{PlainRung}
pub use Rattle.mat_cert.specs.declared.answer.PricedRung.{PricedRung}
pub use Rattle.mat_right.specs.Right.{AreRightRungs, IsRightLadder, IsRightPricedRung, level_of}
pub use Rattle.mat_check.proofs.RightLadders.{laws_of_one, laws_on_weights}
pub use Rattle.mat_check.proofs.ValidGraphs.{coloured_is_coloured, coloured_is_graph, graph_is_graph, rooted_is_graph, table_has_cells}
pub use Rattle.mat_solve.specs.Answers.{HaveBoundedSplits, IsSolution}
pub use Rattle.mat_solve.specs.CostlyRows.{has_costly_rows, some_have_costly_rows}
pub use Rattle.mat_solve.specs.PricedRungs.{AreSmallSets, HaveFewElements, plain_rung, priced_rung}
