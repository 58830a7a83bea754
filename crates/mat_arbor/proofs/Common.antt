-- The names that the proofs of this crate take from elsewhere and from its specs, passed on from one place. Declares nothing.
pub use Rattle.std.proofs.Common.{All, Bool, List, [], ap, arith, below_more, div-add-mod', eq-eqb, eqb, eqb-true, false, get_or, get_or-set_other, get_or-set_same, inl, inr, length, length-append, length-set, length-take-le, lt-ltb, ltb-true, map, ne_eqb, neg_ℤ, not, of_z, pos, refl, set, subst}
pub use Rattle.std.proofs.Common.{suc, sym, take, to_z, true, zero, ℕ, ℤ, ◌%◌, ◌&&◌, ◌*ℤ◌, ◌*◌, ◌++◌, ◌+ℤ◌, ◌+◌, ◌-ℤ◌, ◌-◌, ◌/◌, ◌<ℤ◌, ◌<◌, ◌^◌, ◌||◌, ◌∙◌, ◌∷◌, ◌≡◌, ◌≢◌, ◌≤ℤ◌, ◌≤◌, ◌⊎◌}
pub use Rattle.std.proofs.lemmas.Bool.{and_from, and_parts, both_ways, cases_Bool, cases_eq, cases_lt, eqb-false, false_from_ne_true, false≢true, not-true, or_cases, or_left, or_right}
pub use Rattle.std.proofs.lemmas.Int.{by_lt_z, ints, to_z-of_z}
pub use Rattle.std.proofs.lemmas.List.{get_or-map, get_or_append_left, get_or_default, get_or_push, length-map, map_more, take_more}
pub use Rattle.std.proofs.lemmas.List.Elements.{All-from_get_or, All-get_or}
pub use Rattle.std.proofs.lemmas.Nat.{div_below, mod-mul-add, mod_below, mul-le}
pub use Rattle.mat_sets.specs.Graphs.{DirectedWalk, IsGraph, IsRootFree, IsSpanningArborescence, IsUnentered, Reaches, Walk, ends_of, enters}
pub use Rattle.mat_sets.specs.Limits.{largest_weight, most_elements}
unfoldable pub use Rattle.mat_sets.specs.SetTests.{is_set}
pub use Rattle.mat_sets.specs.Sets.{IsRising, IsSet, IsSubset, is_member}
unfoldable pub use Rattle.mat_sets.specs.Sets.{all_below, minus, with_one, without_one}
pub use Rattle.mat_sets.specs.Sums.{IsWithin, sum_of}
pub use Rattle.mat_sets.specs.Weights.{AreWeightsWithin, IsWeightWithin, negated, weight, weight_at, weight_sum, zero_weight, ◌≼◌, ◌⊕◌, ◌⊖◌}
pub use Rattle.mat_sets.specs.declared.weight.Weight.{Weight}
pub use Rattle.mat_sets.proofs.Cardinalities.{length-minus_subset, length-with_one, length-without_one, sum_of-high, sum_of-le, sum_of-low, sum_of-plus, sum_of-without_one}
pub use Rattle.mat_sets.proofs.Crossings.{arborescence_enters, unentered_has_none, walk_enters}
pub use Rattle.mat_sets.proofs.DisjointSets.{in_complement, no_member, with_one-holds}
pub use Rattle.mat_sets.proofs.Filters.{IsRising-filter}
pub use Rattle.mat_sets.proofs.Ground.{AllBelow-from_members, IsRising-all_below, IsSet-all_below, IsSet-length, IsSet-minus, IsSet-nil, IsSet-with_one, IsSubset-all_below, below_member, is_member-all_below, length-all_below, length-complement}
pub use Rattle.mat_sets.proofs.Members.{IsRising-minus, IsRising-nil, IsRising-with_one, IsRising-without_one, is_member-filter, is_member-get_or, is_member-head, is_member-minus, is_member-with_one, is_member-without_one, with_one-member}
pub use Rattle.mat_sets.proofs.OneToOne.{length-covered, length-one_to_one}
pub use Rattle.mat_sets.proofs.SetTests.{IsSet-from_test}
pub use Rattle.mat_sets.proofs.Subsets.{IsSubset-with_one, find_member}
pub use Rattle.mat_sets.proofs.WeightOrder.{pairs}
pub use Rattle.mat_laws.specs.Ladders.{split_bound}
pub use Rattle.mat_graphic.specs.ForestLaws.{IsForest-from_test, IsForest-subset, graphic_laws}
pub use Rattle.mat_graphic.specs.Forests.{IsForest, is_graphic}
unfoldable pub use Rattle.mat_graphic.specs.Forests.{is_forest}
pub use Rattle.mat_graphic.proofs.ComponentCounts.{AreEndsBelow}
pub use Rattle.mat_graphic.proofs.ForestSizes.{length-forest_inside, spanning_forest}
pub use Rattle.mat_cuts.specs.Checking.{IsAdded}
pub use Rattle.mat_cuts.specs.Costs.{IsWideCost, cost_at}
pub use Rattle.mat_cuts.specs.Cuts.{IsWeightedCut, all_weight, weight_on, weight_where}
pub use Rattle.mat_cuts.specs.Pricing.{ArePriced, IsRightlyPriced}
pub use Rattle.mat_cuts.specs.declared.cut_weight.CutWeight.{CutWeight}
pub use Rattle.mat_arbor.specs.Arborescences.{IsRightArbor, IsSplitArborescence, IsUnreachedSet}
pub use Rattle.mat_arbor.specs.Growing.{IsGrownTree, Leaves}
pub use Rattle.mat_arbor.specs.Halves.{AreSecondHalves, IsFreeShift, gap_at, raised_value, tie_gap, unit_of, value, weight_of}
pub use Rattle.mat_arbor.specs.Heads.{EntersOnce, cap_at, head_of, is_entering_once}
pub use Rattle.mat_arbor.specs.Held.{AreHeldWeights, IsCutWithin, held_weight, holds, weight_around}
