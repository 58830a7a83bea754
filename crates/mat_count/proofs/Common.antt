-- The names that the proofs of this crate take from elsewhere and from its specs, passed on from one place. Declares nothing.
pub use Rattle.std.specs.Prelude.{⊤}
pub use Rattle.std.proofs.Common.{Bool, List, MatchOption, None, Option, Some, [], ap, ap₂, arith, cond, eq-eqb, eqb, eqb-true, false, get_or, get_or-set_other, get_or-set_same, get_or-take, inl, inr, is_some, le-leb, le-ltb, leb, leb-true, length, length-append, length-set, length-take, lt-ltb}
pub use Rattle.std.proofs.Common.{ltb, ltb-false, ltb-true, map, ne_eqb, not, refl, replicate, rules, set, subst, suc, sym, take, take_all, true, zero, ℕ, ◌&&◌, ◌++◌, ◌+◌, ◌-◌, ◌<◌, ◌||◌, ◌↔◌, ◌∙◌, ◌∷◌, ◌≡◌, ◌≢◌, ◌≤◌, ◌⊎◌}
pub use Rattle.std.proofs.lemmas.Bool.{and_from, and_parts, both_ways, cases_Bool, cases_eq, cases_lt, cases_order, false_from_ne_true, false≢true, lt-leb, not-false, not-true, or_cases, or_right}
pub use Rattle.std.proofs.lemmas.Grind.{get_or-set_at, same_number_lists}
pub use Rattle.std.proofs.lemmas.List.{get_or-replicate, get_or_append_left, get_or_default, get_or_past, get_or_push, length-map, length-replicate, nil_from_length}
pub use Rattle.std.proofs.lemmas.List.Elements.{All-from_get_or, All-get_or}
pub use Rattle.std.proofs.lemmas.Result.{IfOk-weaker}
pub use Rattle.mat_sets.specs.Families.{AreDisjoint, indicator}
unfoldable pub use Rattle.mat_sets.specs.Families.{multiplicity}
unfoldable pub use Rattle.mat_sets.specs.SetTests.{is_set}
pub use Rattle.mat_sets.specs.Sets.{AllBelow, IsRising, IsSet, IsSubset, counted_from, is_member}
unfoldable pub use Rattle.mat_sets.specs.Sets.{all_below, intersection, with_one, without_one}
pub use Rattle.mat_sets.proofs.DisjointSets.{no_member}
pub use Rattle.mat_sets.proofs.Filters.{filter-passed, filter_whole}
pub use Rattle.mat_sets.proofs.Ground.{AllBelow-from_members, IsSet-length, IsSet-with_one, IsSet-without_one, below_member, get_or-map_all_below, length-map_all_below, map-all_below_more, map-all_below_none}
pub use Rattle.mat_sets.proofs.LevelSearch.{some_member}
pub use Rattle.mat_sets.proofs.Members.{IsRising-intersection, IsRising-with_one, IsRising-without_one, RisesFrom-index, filter_same_at, intersection-none, is_member-filter, is_member-get_or, is_member-head, is_member-intersection, is_member-with_one, place_of_member, same_members, set_members}
pub use Rattle.mat_sets.proofs.Members.{with_one-member}
pub use Rattle.mat_sets.proofs.SetTests.{IsSet-from_test, is_set-true, is_set-with_one, test_from-IsSet}
pub use Rattle.mat_sets.proofs.Steps.{intersection-more, is_member-take_more, is_member-take_next, written_back}
pub use Rattle.mat_sets.proofs.Subsets.{same_size_subset, subset_or}
pub use Rattle.mat_sets.proofs.Sums.{AllBelow-at}
pub use Rattle.mat_sets.proofs.Truths.{or_none}
pub use Rattle.mat_laws.specs.Exchanges.{row_of}
pub use Rattle.mat_laws.specs.declared.exchange.Exchange.{Exchange}
pub use Rattle.mat_laws.proofs.GreedyRunSteps.{IsRunning, IsRunning-end, IsRunning-next, IsRunning-start}
pub use Rattle.mat_laws.proofs.Rows.{row_outside}
pub use Rattle.mat_count.specs.Counters.{is_full, is_named_full}
pub use Rattle.mat_count.specs.Counts.{IsWithinCaps, is_counted, is_uniform, is_within_caps}
pub use Rattle.mat_count.specs.FullSets.{AreFullSets, IsSmallest, has_fewer, kept_at, row_at_place, row_of_size, where_full}
pub use Rattle.mat_count.specs.Labels.{AreApart, is_labelled, labelled, one_each}
unfoldable pub use Rattle.mat_count.specs.Labels.{caps_by, classes_by}
pub use Rattle.mat_count.specs.Laminar.{IsLaminarFamily}
unfoldable pub use Rattle.mat_count.specs.Laminar.{crosses, is_crossed}
pub use Rattle.mat_count.specs.LaminarFaults.{IsFirstCrossing, IsFirstPair, NoneCrosses, SomeOutside}
pub use Rattle.mat_count.specs.LaminarLaws.{Crosses-from_test, IsWithinCaps-from_test, counted_laws, counted_more, counted_same, test_from-Crosses, test_from-IsWithinCaps}
pub use Rattle.mat_count.specs.LaminarMatroids.{CappedSets, IsLaminar, IsPlaceTable, IsPlaced}
pub use Rattle.mat_count.specs.PartitionLaws.{IsLaminarFamily-from_disjoint}
pub use Rattle.mat_count.specs.Partitions.{CappedClasses, CountsMembers, IsClassEntered, IsClassTable, IsPartition, names}
pub use Rattle.mat_count.specs.declared.full_sets.FullSets.{FullSets}
