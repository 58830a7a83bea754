-- The names that the proofs of this crate take from elsewhere and from its specs, passed on from one place. Declares nothing.
pub use Rattle.std.proofs.Common.{All, Bool, Global, IfSome, List, Option, Vec, [], ap, arith, eqb-true, false, get_or, inl, inr, length, length-append, lt-ltb, ltb, ltb-true, map, not, refl, reverse, rules, subst, suc, sym, take, take_all, true, zero, ℕ, ◌&&◌, ◌++◌, ◌+◌, ◌<◌, ◌^◌, ◌||◌, ◌∙◌, ◌∷◌}
pub use Rattle.std.proofs.Common.{◌≡◌, ◌≤◌}
pub use Rattle.std.proofs.lemmas.Bool.{and_from, and_parts, both_ways, cases_Bool, false_from_ne_true, false≢true, or_right}
pub use Rattle.std.proofs.lemmas.List.{get_or-map, length-map, nil_from_length}
pub use Rattle.std.proofs.lemmas.List.Elements.{All-append, All-cons, All-head, All-nil, All-tail}
pub use Rattle.std.proofs.lemmas.Result.{IfOk-weaker, on_ok_weaker}
unfoldable pub use Rattle.mat_sets.specs.Families.{family_union}
pub use Rattle.mat_sets.specs.Sets.{AllBelow, AreDistinct, IsRising, IsSet, IsSubset, is_member}
unfoldable pub use Rattle.mat_sets.specs.Sets.{all_below, minus, union, with_one}
pub use Rattle.mat_sets.proofs.Ground.{AllBelow-filter, AreDistinct-rising, IsSet-all_below, IsSet-minus, IsSet-subset, IsSet-union, is_member-all_below}
pub use Rattle.mat_laws.specs.Exchanges.{row_of}
pub use Rattle.mat_laws.specs.GreedyRuns.{grown_along, grown_by}
pub use Rattle.mat_laws.specs.Matroids.{IsMatroid, IsMaximal}
pub use Rattle.mat_laws.specs.declared.exchange.Exchange.{Exchange}
pub use Rattle.mat_laws.proofs.GreedyRunSets.{run_length, run_maximal_of}
pub use Rattle.mat_laws.proofs.GreedyRunSteps.{IsRunning, IsRunning-end}
pub use Rattle.mat_laws.proofs.Independent.{below, rising}
pub use Rattle.mat_minors.specs.ContractionLaws.{IsJoined-gives}
pub use Rattle.mat_minors.specs.MinorLaws.{contracted_laws, dual_laws, restricted_laws}
pub use Rattle.mat_minors.specs.Minors.{is_contracted, is_dual, is_restricted, is_truncated}
pub use Rattle.mat_minors.proofs.DualExchanges.{kept_is, kept_row_is, kept_row_told}
pub use Rattle.mat_minors.proofs.GreedyReversed.{dual_by_run, dual_greedy_of}
pub use Rattle.mat_minors.proofs.MinorRows.{contracted_apart, contracted_row, contracted_row_outside, outside_joined, restricted_row, restricted_row_outside, truncated_row}
pub use Rattle.mat_union.specs.FollowedArcs.{AreArcs, AreReached}
pub use Rattle.mat_union.specs.GrownParts.{AreGrowing, AreKept, AreKeptParts}
pub use Rattle.mat_union.specs.MoveSearches.{IsReaching, questions_left}
pub use Rattle.mat_union.specs.Moves.{all_moved, exchanges_with}
pub use Rattle.mat_union.specs.PartListLaws.{parts_pass, parts_set}
pub use Rattle.mat_union.specs.Unions.{AreMatroids, AreParts, part_at, test_at, union_test}
unfoldable pub use Rattle.mat_union.specs.Unions.{divides}
pub use Rattle.mat_union.specs.UnionsOf.{AreJoined, common_size}
pub use Rattle.mat_union.proofs.ArcsOfParts.{adds_below, adds_takes, arcs_more, entered_before, entered_end, entered_more, entered_none, entered_one, unentered_one}
pub use Rattle.mat_union.proofs.MadeMoves.{AreMadeSo, anew_at, anew_end, anew_none, made_end, made_none, made_part, made_same, made_set, part_stays}
pub use Rattle.mat_union.proofs.PartsOfSets.{AreTakenSo, rest_below, taken_are, taken_inside, taken_more, taken_none}
pub use Rattle.mat_union.proofs.SoundMatroids.{AreKeptAnew, AreKeptSo, anew_same, anew_set, kept_at, kept_more, part_passes, parts_count, sound_at, test_is}
pub use Rattle.mat_any.specs.AnyKeeps.{KeepsAny, KeepsDual, KeepsEach}
pub use Rattle.mat_any.specs.FlatUnions.{IsFlat, KeepsFlat}
pub use Rattle.mat_any.specs.Joined.{IsSoundOne, KeepsOne, KeepsUnion, elements_in, size_in, test_in, trees_in, union_in}
pub use Rattle.mat_any.specs.Parts.{IsUnited, tree_seen, trees_seen}
pub use Rattle.mat_any.specs.TreeLaws.{tree_laws}
pub use Rattle.mat_any.specs.Trees.{AreSoundOn, IsSound, Tree, Trees, dual, element_count, first_count, flat_of, flat_trees, is_independent, more_trees, no_trees, tests_of, tree_count}
pub use Rattle.mat_any.specs.Views.{tree_of, trees_of}
pub use Rattle.mat_any.specs.declared.any.AnyMatroid.{AnyMatroid, Row_of-AnyMatroid, Union, Union', end_of-AnyMatroid, items-the_row-AnyMatroid, items_hidden-the_row-AnyMatroid-0, more_of-AnyMatroid, the_lemmas}
pub use Rattle.mat_any.specs.declared.any_kept.AnyKept.{AnyKept, Row_of-AnyKept, end_of-AnyKept, items-the_row-AnyKept, items_hidden-the_row-AnyKept-0, more_of-AnyKept}
