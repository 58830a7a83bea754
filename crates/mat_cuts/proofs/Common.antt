-- The names that the proofs of this crate take from elsewhere and from its specs, passed on from one place. Declares nothing.
pub use Rattle.std.proofs.Common.{All, Bool, IfOk, IsTrue, List, MatchOption, None, Option, Some, [], ap, arith, below_more, eq-eqb, eqb, eqb-true, false, filter, get_or, get_or-set_other, get_or-set_same, if◌then◌else◌, inl, inr, le-leb, le-ltb, leb, length, length-append, length-set}
pub use Rattle.std.proofs.Common.{length-take-le, lt-ltb, ltb, ltb-true, ne_eqb, not, of_z, pos, refl, replicate, rules, set, subst, suc, sym, take, take_all, to_z, true, ℕ, ℤ, ◌&&◌, ◌*◌, ◌++◌, ◌+ℤ◌, ◌+◌, ◌<ℤ◌, ◌<◌, ◌^◌, ◌||◌, ◌↔◌, ◌∙◌, ◌∷◌, ◌≡◌, ◌≢◌, ◌≤ℤ◌, ◌≤◌, ◌⊎◌}
pub use Rattle.std.proofs.lemmas.Bool.{and_from, and_left, and_parts, both_ways, cases_Bool, cases_eq, cases_lt, false_from_ne_true, false≢true, not-true, or_cases, or_left, or_right}
pub use Rattle.std.proofs.lemmas.Grind.{get_or_default_zero}
pub use Rattle.std.proofs.lemmas.Int.{ints, to_z-of_z}
pub use Rattle.std.proofs.lemmas.List.{get_or-replicate, get_or_default, get_or_past, length-replicate, take_more}
pub use Rattle.std.proofs.lemmas.List.Elements.{All-get_or, filter-append}
pub use Rattle.mat_sets.specs.Graphs.{DirectedWalk, IsGraph, IsRootFree, IsSpanningArborescence, IsUnentered, Reaches, ends_of, enters}
pub use Rattle.mat_sets.specs.Limits.{largest_number, largest_weight}
unfoldable pub use Rattle.mat_sets.specs.Search.{those_below}
pub use Rattle.mat_sets.specs.Sets.{AllBelow, IsRising, IsSet, IsSubset, is_member}
unfoldable pub use Rattle.mat_sets.specs.Sets.{all_below, with_one, without_one}
pub use Rattle.mat_sets.specs.Sums.{IsWithin, sum_of}
pub use Rattle.mat_sets.proofs.Cardinalities.{length-with_one, length-without_one, sum_of-high, sum_of-le, sum_of-plus, sum_of-with_one}
pub use Rattle.mat_sets.proofs.Crossings.{arborescence_enters, unentered_has_none}
pub use Rattle.mat_sets.proofs.EachItem.{AllByRecursion-at, AllByRecursion-more, AllByRecursion-push, AllByRecursion-take}
pub use Rattle.mat_sets.proofs.Ground.{IsRising-all_below, IsSet-all_below, IsSet-nil, IsSet-with_one, IsSet-without_one, IsSubset-all_below, all_below-more, below_member, is_member-all_below, length-all_below}
pub use Rattle.mat_sets.proofs.Members.{is_member-get_or, is_member-head, is_member-with_one, is_member-without_one, member_from_some, only_member, some_from_member}
pub use Rattle.mat_sets.proofs.Rounds.{those_below-none, those_below-put, those_below-skip}
pub use Rattle.mat_sets.proofs.Search.{IsSet-those_below, is_member-those_below}
pub use Rattle.mat_sets.proofs.Subsets.{IsSubset-with_one, larger_has, same_size_subset}
pub use Rattle.mat_sets.proofs.Sums.{AllBelow-at, sum_of-more}
pub use Rattle.mat_sets.proofs.Truths.{and_not_none, eqb-turned}
pub use Rattle.mat_cuts.specs.Answers.{AreInRange, AreRight, IsCutInRange}
pub use Rattle.mat_cuts.specs.Costs.{IsCost, IsWideCost, cost_at, cost_of}
pub use Rattle.mat_cuts.specs.Cuts.{AreRightCuts, IsWeightedCut, all_weight, weight_on, weight_where}
pub use Rattle.mat_cuts.specs.Growing.{IsEarliest, IsLeaving, TellsEarliest, TellsLeaving, is_timed, leaves}
pub use Rattle.mat_cuts.specs.Limits.{never, vertex_bound}
pub use Rattle.mat_cuts.specs.Listing.{IsBegun, IsFollowed, IsListed, IsPaid, TellsSpent}
pub use Rattle.mat_cuts.specs.Raising.{AreNested, IsFirstTime, IsLeast, IsLeastOf, IsLowered, IsNested, IsPath, IsRaised, Leads, TellsLeastOf, at, comes}
unfoldable pub use Rattle.mat_cuts.specs.Raising.{falls}
pub use Rattle.mat_cuts.specs.declared.cut_weight.CutWeight.{CutWeight}
pub use Rattle.mat_cuts.specs.declared.cut_weight.Cuts.TheVariants.{Tree, Unreached}
pub use Rattle.mat_cuts.specs.declared.growing.Raised.{Raised}
