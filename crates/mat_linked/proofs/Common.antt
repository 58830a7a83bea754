-- The names that the proofs of this crate take from elsewhere and from its specs, passed on from one place. Declares nothing.
pub use Rattle.std.proofs.Common.{Bool, List, None, Option, Some, [], ap, arith, cond, drop, eq-eqb, eqb, eqb-true, false, filter, get_or, get_or-set_other, get_or-set_same, if◌then◌else◌, inl, inr, is_none, is_some, length, length-set, ltb, map, ne_eqb, not, refl, replicate, rules, set, subst, suc}
pub use Rattle.std.proofs.Common.{sym, take, take_all, true, vec_len, zero, ℕ, ◌&&◌, ◌+◌, ◌<◌, ◌^◌, ◌||◌, ◌↔◌, ◌∙◌, ◌∷◌, ◌≡◌, ◌≢◌, ◌≤◌, ◌⊎◌}
pub use Rattle.std.proofs.lemmas.Bool.{and_from, and_parts, both_ways, cases_Bool, cases_eq, cases_lt, cond_both, false_from_ne_true, false≢true, not-true, or_cases, or_from, or_left, or_right}
pub use Rattle.std.proofs.lemmas.List.{drop_more, get_or_past, length-map, length-replicate}
pub use Rattle.std.proofs.lemmas.Result.{IfOk-weaker}
pub use Rattle.mat_sets.specs.Rows.{row_at}
pub use Rattle.mat_sets.specs.Search.{IsNextFrom}
pub use Rattle.mat_sets.specs.Sets.{AllBelow, AreDistinct, IsRising, IsSet, IsSubset, is_member}
unfoldable pub use Rattle.mat_sets.specs.Sets.{all_below, intersection, minus, union, with_one, without_one}
pub use Rattle.mat_sets.specs.Walks.{IsReachedSet, IsShortestWalk, IsWalk}
pub use Rattle.mat_sets.proofs.DisjointSets.{minus_from, minus_parts}
pub use Rattle.mat_sets.proofs.Filters.{IsRising-found, filter-found, filter-passed, filter_whole}
pub use Rattle.mat_sets.proofs.Ground.{AllBelow-from_members, AllBelow-member, AreDistinct-rising, IsSet-minus, IsSet-subset, IsSet-with_one, IsSet-without_one, below_member, length-distinct, length-distinct_subset}
pub use Rattle.mat_sets.proofs.ListParts.{is_member-tail, member_differs, same_place}
pub use Rattle.mat_sets.proofs.Members.{IsRising-intersection, IsRising-minus, IsRising-nil, IsRising-union, IsRising-with_one, IsRising-without_one, filter_same_at, is_member-get_or, is_member-head, is_member-union, is_member-with_one, is_member-without_one, place_of_member, same_members}
pub use Rattle.mat_sets.proofs.Members.{set_members}
pub use Rattle.mat_sets.proofs.Reach.{finite_reach, reached_by_induction, reached_set_exists, walk_differs}
pub use Rattle.mat_sets.proofs.Steps.{IsRising-take, is_member-take_more, is_member-take_next, take-with_one, union-more, union-none}
pub use Rattle.mat_sets.proofs.Subsets.{intersection-right, same_size_subset, union-IsSubset, with_one-IsSubset}
pub use Rattle.mat_sets.proofs.Sums.{AllBelow-at}
pub use Rattle.mat_sets.proofs.Truths.{or_none, same_truth}
pub use Rattle.mat_laws.specs.Exchanges.{row_of}
pub use Rattle.mat_laws.specs.GreedyRuns.{grown_along}
pub use Rattle.mat_laws.specs.declared.exchange.Exchange.{Exchange}
pub use Rattle.mat_laws.proofs.GreedyRunSteps.{IsRunning, IsRunning-end, IsRunning-next, IsRunning-start}
pub use Rattle.mat_laws.proofs.Rows.{row-addable, row_outside}
pub use Rattle.mat_flow.specs.LinkTables.{IsShifted, entry_at, entry_before, is_there}
pub use Rattle.mat_flow.specs.LinkedEnds.{IsLinkedTo, IsLinker}
pub use Rattle.mat_flow.specs.Paths.{HasPathsToEach, IsLinking, last_of}
pub use Rattle.mat_flow.specs.Reroutes.{AreReroutes, GiveWay}
pub use Rattle.mat_flow.specs.Seeking.{IsFreeWalk, IsRoom, IsShut, IsSpent, live_in}
pub use Rattle.mat_flow.specs.declared.linker.Linker.{Linker}
pub use Rattle.mat_flow.proofs.Frontiers.{is_before-more, is_before_gives}
pub use Rattle.mat_flow.proofs.LeadingVertices.{AreLeading-same, leading_walk, unled_misses}
pub use Rattle.mat_flow.proofs.LinkTables.{entry_inside, none_from, none_is_not_some, some_is_one}
pub use Rattle.mat_flow.proofs.PathsOfTables.{shifted_table}
pub use Rattle.mat_linked.specs.GammoidLaws.{gammoid_laws, is_gammoid-from, is_gammoid-gives}
pub use Rattle.mat_linked.specs.Gammoids.{IsGammoid, is_gammoid, set_of_vertices, vertices_of}
pub use Rattle.mat_linked.specs.KeptLinkings.{has_vertex_in}
pub use Rattle.mat_linked.specs.KeptMatchings.{LeadToFree}
pub use Rattle.mat_linked.specs.LinkedSetLaws.{AreDistinct-vertices_of, for_more, linked_by, member_vertex, same_vertex, size_of, vertex_member}
pub use Rattle.mat_linked.specs.Matchings.{AreIndices, AreMatchable, IsMatchedOrNone, IsMatching, entry_without, is_held, is_matched_among}
pub use Rattle.mat_linked.specs.TransversalLaws.{is_transversal-from, is_transversal-gives, transversal_laws}
pub use Rattle.mat_linked.specs.Transversals.{Family, IsPartialTransversal, is_transversal, lie_in_sets}
