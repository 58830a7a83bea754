-- The names that the proofs of this crate take from elsewhere and from its specs, passed on from one place. Declares nothing.
pub use Rattle.std.proofs.Common.{All, Bool, List, MatchOption, Some, [], ap, arith, eq-eqb, eqb, eqb-true, false, get_or, inl, inr, length, length-append, lt-ltb, ltb, ltb-true, map, not, refl, subst, suc, sym, true, zero, ℕ, ◌&&◌, ◌*◌, ◌++◌, ◌+◌, ◌-◌, ◌/◌, ◌<◌, ◌^◌, ◌||◌, ◌↔◌, ◌∙◌, ◌∷◌, ◌≡◌, ◌≢◌}
pub use Rattle.std.proofs.Common.{◌≤◌, ◌⊎◌}
pub use Rattle.std.proofs.lemmas.Bool.{and_from, and_parts, both_ways, cases_Bool, cases_eq, cases_lt, false_from_ne_true, false≢true, not-false, not-true, or_cases}
pub use Rattle.std.proofs.lemmas.List.{get_or-map, get_or_append_left, length-map}
pub use Rattle.std.proofs.lemmas.List.Elements.{All-append, All-head, All-tail}
pub use Rattle.mat_sets.specs.Families.{AreDisjoint, indicator}
unfoldable pub use Rattle.mat_sets.specs.Families.{family_union, multiplicity}
pub use Rattle.mat_sets.specs.Graphs.{IsGraph, ends_of}
pub use Rattle.mat_sets.specs.Sets.{IsRising, IsSet, IsSubset, RisesFrom, is_member}
unfoldable pub use Rattle.mat_sets.specs.Sets.{all_below, intersection, minus, union, with_one}
pub use Rattle.mat_sets.proofs.Cardinalities.{length-minus-intersection, length-union-intersection, length-with_one}
pub use Rattle.mat_sets.proofs.DisjointSets.{minus_from, minus_parts, no_member, no_members}
pub use Rattle.mat_sets.proofs.Families.{AllBelow-family_union, IsRising-family_union, disjoint-apart, family_union-from, family_union-gives, length-meeting, multiplicity-append, multiplicity-family_union, multiplicity-gives, multiplicity-nowhere}
pub use Rattle.mat_sets.proofs.Ground.{IsRising-all_below, IsSet-all_below, IsSet-length, IsSet-minus, IsSet-nil, IsSubset-all_below, below_member, is_member-all_below, length-all_below, length-complement}
pub use Rattle.mat_sets.proofs.Members.{IsRising-intersection, IsRising-minus, IsRising-nil, is_member-get_or, is_member-head, is_member-minus, is_member-union, member_from_some, missing_below, only_member, same_members, set_members, some_from_member}
pub use Rattle.mat_sets.proofs.Search.{IsSet-those_below, is_member-those_below, some_below_from, some_below_gives}
pub use Rattle.mat_sets.proofs.Subsets.{IsSubset-trans, intersection-left, intersection-right, length-subset, minus-IsSubset, same_size_subset}
pub use Rattle.mat_laws.specs.Matroids.{IsBase, IsLoop, IsMatroid}
unfoldable pub use Rattle.mat_laws.specs.Ranks.{rank}
pub use Rattle.mat_laws.proofs.Independent.{below, rising}
pub use Rattle.mat_laws.proofs.RankLaws.{length-independent, rank-maximal, rank_is}
pub use Rattle.mat_graphic.specs.ComponentLaws.{constant_on_components, least_merged-fixed, least_merged-le, member_within}
pub use Rattle.mat_graphic.specs.ForestLaws.{graphic_laws}
pub use Rattle.mat_graphic.specs.Forests.{IsLeastReached, class_of, is_graphic, roots_of}
unfoldable pub use Rattle.mat_graphic.specs.Forests.{least_reached, number_of_components}
unfoldable pub use Rattle.mat_graphic.specs.Mergings.{least_merged}
pub use Rattle.mat_graphic.proofs.ForestSizes.{rank_below_vertices}
pub use Rattle.mat_union.specs.FilledParts.{IsFilled}
pub use Rattle.mat_union.specs.PartListLaws.{cut_bounds, ranks_reached}
pub use Rattle.mat_union.specs.Unions.{AreMatroids, AreParts, part_at, ranks_sum, test_at}
pub use Rattle.mat_packing.specs.Answers.{HasNoLoop, HasNoTrees, IsRightTreesAnswer, is_partition}
pub use Rattle.mat_packing.specs.FilledCopies.{AreFilledCopies}
pub use Rattle.mat_packing.specs.Packings.{AreBases, IsCover, IsCoverCut, IsRightCovering, IsRightPacking}
pub use Rattle.mat_packing.specs.Rooms.{IsEnough, IsRoom}
pub use Rattle.mat_packing.specs.Trees.{AreTrees, IsRightPartition, IsSpanningTree, crossing, is_spanning_tree, stays}
