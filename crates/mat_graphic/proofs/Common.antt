-- The names that the proofs of this crate take from elsewhere and from its specs, passed on from one place. Declares nothing.
pub use Rattle.std.proofs.Common.{All, Bool, List, None, Option, Some, [], ap, append_assoc, arith, drop, eq-eqb, eqb, eqb-true, false, get_or, get_or-set_other, get_or-set_same, if◌then◌else◌, inl, inr, is_some, le-ltb, length, length-append, length-set, lt-ltb, ltb, ltb-true, map, max, min}
pub use Rattle.std.proofs.Common.{ne_eqb, not, refl, rules, set, subst, suc, sym, take, take_all, true, zero, ℕ, ◌&&◌, ◌++◌, ◌+◌, ◌-◌, ◌<◌, ◌||◌, ◌∙◌, ◌∷◌, ◌≡◌, ◌≢◌, ◌≤◌, ◌⊎◌}
pub use Rattle.std.proofs.lemmas.Bool.{and_from, and_parts, and_right, both_ways, cases_Bool, cases_eq, cases_lt, eqb-false, false_from_ne_true, false≢true, not-false, not-true, or_cases, or_from, or_left, or_parts, or_right}
pub use Rattle.std.proofs.lemmas.Bool.Decides.{nat_tests}
pub use Rattle.std.proofs.lemmas.List.{drop_all, drop_more, get_or-map, get_or_append_left, get_or_default, length-map, length-replicate, map_more, set-get_or}
pub use Rattle.std.proofs.lemmas.Result.{IfOk-weaker, on_ok_weaker}
pub use Rattle.mat_sets.specs.Graphs.{Joins, Walk, ends_of}
pub use Rattle.mat_sets.specs.Search.{IsNextFrom}
unfoldable pub use Rattle.mat_sets.specs.Search.{those_below}
unfoldable pub use Rattle.mat_sets.specs.SetTests.{is_set}
pub use Rattle.mat_sets.specs.Sets.{AllBelow, AreDistinct, IsRising, IsSet, IsSubset, RisesFrom, is_member}
unfoldable pub use Rattle.mat_sets.specs.Sets.{all_below, minus, union, with_one, without_one}
pub use Rattle.mat_sets.proofs.Ground.{AllBelow-from_members, AllBelow-member, IsRising-all_below, IsSet-all_below, IsSet-with_one, IsSet-without_one, below_member, is_member-all_below, length-complement, length-distinct_below}
pub use Rattle.mat_sets.proofs.ListParts.{AreDistinct-index, is_member-tail}
pub use Rattle.mat_sets.proofs.Members.{IsRising-minus, IsRising-nil, IsRising-union, IsRising-with_one, IsRising-without_one, RisesFrom-filter, RisesFrom-suffix, RisesFrom-weaken, is_member-append, is_member-filter, is_member-get_or, is_member-head, is_member-minus, is_member-union}
pub use Rattle.mat_sets.proofs.Members.{is_member-with_one, is_member-without_one, member_from, members_by_place, missing_below, place_of_member, same_members, set_members, some_from_member}
pub use Rattle.mat_sets.proofs.Rounds.{those_below-more, those_below-none, those_below-put, those_below-skip}
pub use Rattle.mat_sets.proofs.Search.{IsSet-those_below, is_member-those_below, those_below-same}
pub use Rattle.mat_sets.proofs.SetTests.{IsSet-from_test, is_set-true, test_from-IsSet}
pub use Rattle.mat_sets.proofs.Subsets.{IsSubset-refl, IsSubset-trans, length-subset, same_size_subset, without_one-IsSubset}
pub use Rattle.mat_sets.proofs.Sums.{AllBelow-at}
pub use Rattle.mat_sets.proofs.Truths.{eqb-turned, or_none, or_swap, same_truth}
pub use Rattle.mat_laws.specs.Exchanges.{row_of}
pub use Rattle.mat_laws.specs.declared.exchange.Exchange.{Exchange}
pub use Rattle.mat_laws.proofs.ColumnSteps.{AreEntering, AreEntering-entered, AreEntering-none, AreEntering-passed}
pub use Rattle.mat_laws.proofs.GreedyRunSteps.{IsRunning, IsRunning-end, IsRunning-next, IsRunning-start}
pub use Rattle.mat_laws.proofs.RankLaws.{IsMaximal-largest_subset, rank_is}
pub use Rattle.mat_graphic.specs.ComponentLaws.{IsWithin, in_tail, least_merged-fixed, least_merged-le, least_merged-same, least_merged-within, member_within, merged-first, merged-fixed, merged-same, merged-second, merged_cases, trail_of_same, walk_append, walk_same}
pub use Rattle.mat_graphic.specs.ForestLaws.{IsForest-from_test, IsForest-more, IsForest-none, IsForest-subset, IsRising-reaching_lower, IsSubset-tail, apart_of_forest, crossed_once, graphic_laws, in_with_one, is_graphic-with_one, is_member-reaching_lower, length-reaching_lower, never_joined}
pub use Rattle.mat_graphic.specs.ForestLaws.{test_from-IsForest}
unfoldable pub use Rattle.mat_graphic.specs.ForestLaws.{reaching_lower}
pub use Rattle.mat_graphic.specs.Forests.{IsForest, IsLeastReached, class_of, components_of, is_graphic, is_walk, roots_of}
unfoldable pub use Rattle.mat_graphic.specs.Forests.{is_forest, is_reached, least_reached, number_of_components}
pub use Rattle.mat_graphic.specs.Hanging.{AreFlags, IsCopied, IsHung, IsNewEdge, IsTurned, StayApart}
pub use Rattle.mat_graphic.specs.Mergings.{merged}
unfoldable pub use Rattle.mat_graphic.specs.Mergings.{least_merged}
pub use Rattle.mat_graphic.specs.ParentTables.{IsDescending, IsParentTable}
pub use Rattle.mat_graphic.specs.RootedForests.{IsRootedForest}
pub use Rattle.mat_graphic.specs.TrailSearches.{AreAfter, AreEnds, AreJoined, ArePlaces, EndsAt, IsClimbing, IsExploring, IsFindable, IsFront, IsOrder, IsTrailEntered, IsTrailSet, IsTree, Trail, stands_at}
