-- The names that the proofs of this crate take from elsewhere and from its specs, passed on from one place. Declares nothing.
pub use Rattle.std.proofs.Common.{Bool, Global, List, None, Option, Some, Vec, [], ap, append-nil, append_assoc, arith, cond, eq-eqb, eqb, eqb-true, false, get_or, get_or-set_other, get_or-set_same, if◌then◌else◌, inl, inr, is_some, length, length-set, lt-ltb, ltb, ltb-true, map, ne_eqb, not, refl}
pub use Rattle.std.proofs.Common.{replicate, reverse, rules, set, subst, suc, sym, take, take_all, true, vec_len, zero, ℕ, ◌&&◌, ◌++◌, ◌+◌, ◌-◌, ◌<◌, ◌==◌, ◌||◌, ◌↔◌, ◌∙◌, ◌∷◌, ◌≡◌, ◌≢◌, ◌≤◌, ◌⊎◌}
pub use Rattle.std.proofs.lemmas.Bool.{and_from, and_left, and_parts, and_right, both_ways, cases_Bool, cases_eq, cases_lt, cond_both, eqb-false, false_from_ne_true, false≢true, not-true, not_from_false, not_from_true, or_cases, or_from, or_left, or_parts, or_right}
pub use Rattle.std.proofs.lemmas.List.{get_or-map, get_or-replicate, get_or_append_left, get_or_default, get_or_past, get_or_push, length-map, length-replicate, length_push}
pub use Rattle.std.proofs.lemmas.List.Elements.{All-cons, All-head, All-nil, All-push, All-tail, All-weaker}
pub use Rattle.mat_sets.specs.Graphs.{DirectedWalk, IsGraph, ends_of}
unfoldable pub use Rattle.mat_sets.specs.Graphs.{entering}
pub use Rattle.mat_sets.specs.Rows.{row_at}
pub use Rattle.mat_sets.specs.Search.{IsFirstFrom}
unfoldable pub use Rattle.mat_sets.specs.Search.{those_below}
pub use Rattle.mat_sets.specs.Sets.{AllBelow, AreDistinct, IsRising, IsSet, IsSubset, is_member}
unfoldable pub use Rattle.mat_sets.specs.Sets.{all_below, union, with_one, without_one}
pub use Rattle.mat_sets.specs.Walks.{IsReachedSet, IsShortestWalk, IsWalk}
pub use Rattle.mat_sets.proofs.Cardinalities.{length-exchange_one, length-with_one, length-without_one}
pub use Rattle.mat_sets.proofs.Crossings.{Comes, IsRising-entering, at_most_entering, is_member-entering, walk_enters}
pub use Rattle.mat_sets.proofs.DisjointLists.{AreDisjoint-distinct, AreDisjoint-first}
pub use Rattle.mat_sets.proofs.Ground.{AllBelow-from_members, AllBelow-member, AreDistinct-rising, IsRising-all_below, IsSet-all_below, IsSet-nil, IsSet-with_one, IsSet-without_one, below_member, get_or-all_below, is_member-all_below, length-all_below, length-distinct, length-distinct_below}
pub use Rattle.mat_sets.proofs.Ground.{length-distinct_subset}
pub use Rattle.mat_sets.proofs.ListParts.{AreDistinct-apart, AreDistinct-append, AreDistinct-front, AreDistinct-index, AreDistinct-rest, AreDistinct-reverse, SplitAt, is_member-left, is_member-middle, is_member-push, is_member-reverse, is_member-right, is_member-tail, member_differs, members_differ}
pub use Rattle.mat_sets.proofs.ListParts.{reverse-cons, same_place, split_at}
pub use Rattle.mat_sets.proofs.Members.{IsRising-nil, IsRising-union, IsRising-with_one, IsRising-without_one, is_member-append, is_member-filter, is_member-get_or, is_member-head, is_member-union, is_member-with_one, is_member-without_one, members_by_place, place_of_member, same_members}
pub use Rattle.mat_sets.proofs.Members.{set_members}
pub use Rattle.mat_sets.proofs.Reach.{finite_reach, reached_by_induction, reached_set_exists, shortest_walk_is_chordless, walk_differs}
pub use Rattle.mat_sets.proofs.Rounds.{AreTaken-more, AreTaken-rest, those_below-none, those_below-put, those_below-skip}
pub use Rattle.mat_sets.proofs.Rows.{is_member-inserted}
pub use Rattle.mat_sets.proofs.Search.{IsNextFrom-same, IsSet-those_below, is_member-those_below, length-those_below_less}
pub use Rattle.mat_sets.proofs.Steps.{is_member-take_more, is_member-take_next}
pub use Rattle.mat_sets.proofs.Subsets.{find_member, length-subset, same_size_subset, without_one-IsSubset}
pub use Rattle.mat_sets.proofs.Sums.{AllBelow-above_all, AllBelow-at, above_all}
pub use Rattle.mat_sets.proofs.Truths.{and_all, and_not_none, eqb-turned, or_assoc, or_none, same_truth}
pub use Rattle.mat_flow.specs.ArcPaths.{AreArcPaths, IsArcCut, IsArcPath}
pub use Rattle.mat_flow.specs.Digraphs.{AreRows, DirectedGraph, IsTurned, reversed_arcs}
pub use Rattle.mat_flow.specs.Leading.{AreLeading, AreLedFrom, IsLed}
pub use Rattle.mat_flow.specs.LineGraphs.{AreLeaving, IsLeftOut, is_head_there, is_passed, line_rows, pairs_with}
unfoldable pub use Rattle.mat_flow.specs.LineGraphs.{arcs_from, arcs_to, line_arcs}
pub use Rattle.mat_flow.specs.LinkTables.{HasEnds, HasPathLeft, IsFrontier, IsLinkTable, IsShifted, entry_at, entry_before, is_before, is_member_there, is_there, leads_to, one_if_none, residual_arc, residual_goal, starts_among, starts_in, with_there}
pub use Rattle.mat_flow.specs.Paths.{AreDisjointPaths, ArePathsApart, HasOnePathMore, HasPathsToEach, HasSeparatorOf, IsLinking, IsPath, IsPathBetween, IsSeparator, first_of, has_arc, last_of}
pub use Rattle.mat_flow.specs.Reroutes.{AreNextEnds, AreReroutes, GiveWay}
pub use Rattle.mat_flow.specs.Seeking.{IsChain, IsFollowed, IsFreeWalk, IsRoom, IsShut, IsSought, IsSpent, IsTake, IsTraced, live_in}
pub use Rattle.mat_flow.specs.Trails.{AreTrails, IsReversed, IsTrail, IsTrailAmong}
pub use Rattle.mat_flow.specs.declared.arc_flow.ArcAnswer.TheVariants.{Cut, Paths}
pub use Rattle.mat_flow.specs.declared.reroutes.Reroutes.{Reroutes}
