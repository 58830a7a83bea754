-- The names that the proofs of this crate take from elsewhere and from its specs, passed on from one place. Declares nothing.
pub use Rattle.std.proofs.Common.{Bool, Global, IfOk, IfSome, List, MatchOption, None, Option, Some, Vec, [], ap, append-nil, append_assoc, arith, cond, eq-eqb, eqb, eqb-true, false, get_or, get_or-set_other, get_or-set_same, inl, inr, le-ltb, length, length-append, length-set, lt-ltb, ltb}
pub use Rattle.std.proofs.Common.{ltb-true, map, ne_eqb, not, refl, replicate, rules, set, subst, suc, sym, take, take_all, true, vec_len, zero, ℕ, ◌&&◌, ◌*◌, ◌++◌, ◌+◌, ◌-◌, ◌<◌, ◌==◌, ◌^◌, ◌||◌, ◌∙◌, ◌∷◌, ◌≡◌, ◌≢◌, ◌≤◌, ◌⊎◌}
pub use Rattle.std.proofs.lemmas.Bool.{and_from, and_parts, and_right, both_ways, cases_Bool, cases_eq, cases_lt, false_from_ne_true, false≢true, not-true, not_from_false, or_cases, or_from, or_left, or_parts, or_right}
pub use Rattle.std.proofs.lemmas.Int.{ints}
pub use Rattle.std.proofs.lemmas.List.{get_or-map, get_or-replicate, get_or_append_left, get_or_default, get_or_past, get_or_read, length-map, length-replicate, map-append, map_more, replicate_more, take-append-le, take_more}
pub use Rattle.std.proofs.lemmas.List.Elements.{All-get_or, filter_more}
pub use Rattle.std.proofs.lemmas.Result.{IfOk-weaker}
pub use Rattle.mat_sets.specs.FallingWeights.{falling_weights, heavy}
pub use Rattle.mat_sets.specs.Families.{AreDisjoint}
unfoldable pub use Rattle.mat_sets.specs.Families.{family_union}
pub use Rattle.mat_sets.specs.Rows.{row_at}
pub use Rattle.mat_sets.specs.Search.{IsFirstFrom}
unfoldable pub use Rattle.mat_sets.specs.Search.{some_below, those_below}
pub use Rattle.mat_sets.specs.Sets.{AllBelow, IsRising, IsSet, IsSubset, is_member}
unfoldable pub use Rattle.mat_sets.specs.Sets.{all_below, intersection, minus, union, with_one, without_one}
pub use Rattle.mat_sets.specs.WalkSearches.{IsWalkSearch}
pub use Rattle.mat_sets.specs.Walks.{IsReachedSet, IsShortestWalk, IsWalk}
pub use Rattle.mat_sets.specs.Weights.{is_below, is_same, negated, weight_at, weight_sum, zero_weight, ◌≺◌, ◌≼◌}
pub use Rattle.mat_sets.specs.declared.walk_search.WalkSearch.{WalkSearch}
pub use Rattle.mat_sets.specs.declared.walk_search.WalkSearch.TheVariants.{Reached, Walk}
pub use Rattle.mat_sets.specs.declared.weight.Weight.{Weight}
pub use Rattle.mat_sets.proofs.Cardinalities.{length-minus-intersection, length-with_one, length-without_one}
pub use Rattle.mat_sets.proofs.Changes.{with_one-both}
pub use Rattle.mat_sets.proofs.DisjointSets.{apart_from, with_one-holds}
pub use Rattle.mat_sets.proofs.Equalities.{intersection-subset}
pub use Rattle.mat_sets.proofs.FallingWeights.{Falls-at, Falls-places, IsIn, IsIn-place, falling_weights-Falls, falling_weights-gives, falling_weights-holds, heavy_members, place-IsIn, same_falling}
pub use Rattle.mat_sets.proofs.Families.{IsRising-family_union, disjoint-apart, family_union-from, family_union-gives}
pub use Rattle.mat_sets.proofs.Filters.{IsRising-filter, filter_none, filter_whole}
pub use Rattle.mat_sets.proofs.Ground.{AllBelow-from_members, AllBelow-subset, IsRising-all_below, IsSet-nil, IsSet-with_one, below_member, get_or-all_below, is_member-all_below, length-all_below}
pub use Rattle.mat_sets.proofs.ListParts.{is_member-push}
pub use Rattle.mat_sets.proofs.Members.{IsRising-intersection, IsRising-minus, IsRising-nil, IsRising-union, IsRising-with_one, IsRising-without_one, filter_same_at, is_member-append, is_member-filter, is_member-get_or, is_member-intersection, is_member-minus, is_member-union, is_member-with_one}
pub use Rattle.mat_sets.proofs.Members.{is_member-without_one, only_member, place_of_member, same_members}
pub use Rattle.mat_sets.proofs.Reach.{reached_by_induction, reached_set_exists, shortest_walk_is_chordless}
pub use Rattle.mat_sets.proofs.Rounds.{those_below-more, those_below-none}
pub use Rattle.mat_sets.proofs.Search.{IsNextFrom-same, IsSet-those_below, is_member-those_below, some_below-more, some_below-next, some_below-zero, some_below_from, some_below_gives, some_below_none}
pub use Rattle.mat_sets.proofs.Steps.{is_member-take_more, is_member-take_next}
pub use Rattle.mat_sets.proofs.Subsets.{IsSubset-refl, IsSubset-trans, IsSubset-with_one, length-subset, subsets_equal, with_one-IsSubset, without_one-IsSubset}
pub use Rattle.mat_sets.proofs.Sums.{AllBelow-at}
pub use Rattle.mat_sets.proofs.Truths.{and_all, and_neither, and_not_gives, and_not_none, or_assoc, or_commute, or_none, same_truth}
pub use Rattle.mat_laws.specs.Columns.{AreColumns, takes_place}
pub use Rattle.mat_laws.specs.Exchanges.{row_of}
pub use Rattle.mat_laws.specs.GreedyRuns.{grown_along, grown_by}
pub use Rattle.mat_laws.specs.Matroids.{IsMatroid, IsMaximal}
pub use Rattle.mat_laws.specs.TightPaths.{Exchanges, exchanges_at, row_in}
pub use Rattle.mat_laws.specs.declared.exchange.Exchange.{Exchange}
pub use Rattle.mat_laws.proofs.GreedyRunSteps.{IsRunning, IsRunning-end, IsRunning-next}
pub use Rattle.mat_laws.proofs.Independent.{full_in_larger, grow_to_size, rising}
pub use Rattle.mat_laws.proofs.RankLaws.{rank-maximal, rank_is}
pub use Rattle.mat_laws.proofs.Rows.{exchanged, row_of-adds, row_of-trades, row_outside}
pub use Rattle.mat_union.specs.EndedSearches.{IsEnded, IsReady}
pub use Rattle.mat_union.specs.FilledParts.{IsFilled}
pub use Rattle.mat_union.specs.FollowedArcs.{AreAdded, AreArcs, AreColumnsOf, AreFollowed, ArePassed, AreReached, AreRowsUnited, IsRowUnited}
pub use Rattle.mat_union.specs.GrownParts.{AreDone, AreFresh, AreGrowing, AreKept, AreKeptParts, AreSound}
pub use Rattle.mat_union.specs.MoveGraphs.{AreMovable, AreRowsAt, IsPushTable}
pub use Rattle.mat_union.specs.MoveSearches.{AreFoundMoves, AreMovesAt, AreTaken, IsAnswered, IsQuestion, IsReaching, IsReachingTo, IsToldTable, element_asked, left_over, questions_left}
pub use Rattle.mat_union.specs.MoveWalkLaws.{AreBelow, element_of_list, entering_gives, path_is_walk, stuck_from}
pub use Rattle.mat_union.specs.Moves.{AreMoved, IsMovePath, IsMoves, IsShortestMovePath, IsStuck, all_moved, can_enter, can_push, element_at, elements, entering, exchanges_of, exchanges_with, is_entered_or_left, is_free, moved, no_move, place_at, row_found}
pub use Rattle.mat_union.specs.PartListLaws.{AreDisjoint-index, cut_bounds, law_at, nowhere, part_set, parts_pass, parts_set, ranks_bound, ranks_reached, union_holds, union_only, union_set}
pub use Rattle.mat_union.specs.Placings.{ArePlaced, IsBrought, IsPlaceSearch, IsPlacing, IsStuckSearch}
pub use Rattle.mat_union.specs.RightUnions.{AreFalling, IsBestUnion, IsLevelCut, IsRightUnion, level_at}
pub use Rattle.mat_union.specs.UnionLaws.{addable_takes_all, below_start, chordless_moves, exchanges_reached, moves_keep, none_enters, reach_inside, stuck_cut, trade_gives, union_laws}
pub use Rattle.mat_union.specs.UnionOfLaws.{tests_are_matroids}
pub use Rattle.mat_union.specs.Unions.{AreMatroids, AreParts, part_at, ranks_sum, test_at, union_test}
pub use Rattle.mat_union.specs.UnionsOf.{AreJoined, common_size}
pub use Rattle.mat_union.specs.declared.best.Level.{Level}
pub use Rattle.mat_union.specs.declared.exchange_arcs.ExchangeArcs.{ExchangeArcs}
pub use Rattle.mat_union.specs.declared.move_search.MoveSearch.{MoveSearch}
pub use Rattle.mat_union.specs.declared.moves.Move.{Move}
pub use Rattle.mat_union.specs.declared.moves.Moves.{Moves}
pub use Rattle.mat_union.specs.declared.moves.Moves.TheVariants.{Path, Stuck}
