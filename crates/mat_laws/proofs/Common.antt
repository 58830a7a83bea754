-- The names that the proofs of this crate take from elsewhere and from its specs, passed on from one place. Declares nothing.
pub use Rattle.std.proofs.Common.{Bool, List, [], ap, arith, cond, drop, eq-eqb, eqb, eqb-true, false, get_or, if◌then◌else◌, inl, inr, le-ltb, length, lt-ltb, ltb, ltb-true, ne_eqb, not, pred, refl, replicate, subst, suc, sym, true, zero, ℕ, ◌&&◌, ◌++◌, ◌+◌, ◌-◌, ◌<◌, ◌||◌, ◌∙◌, ◌∷◌, ◌≡◌, ◌≢◌, ◌≤◌}
pub use Rattle.std.proofs.Common.{◌⊎◌}
pub use Rattle.std.proofs.lemmas.Bool.{and_from, and_left, and_parts, and_right, both_ways, cases_Bool, cases_eq, cases_lt, cases_order, cond-false, cond-true, false_from_ne_true, false≢true, not-true, or_cases, or_from, or_left, or_right, true_from_ne_false}
pub use Rattle.std.proofs.lemmas.Int.{ints}
pub use Rattle.std.proofs.lemmas.List.{drop_all, drop_more, get_or-replicate, get_or_past, length-replicate}
pub use Rattle.mat_sets.specs.Sets.{AllBelow, AreDistinct, IsRising, IsSet, IsSubset, is_member}
unfoldable pub use Rattle.mat_sets.specs.Sets.{all_below, intersection, minus, union, with_one, without_one}
pub use Rattle.mat_sets.specs.Weights.{is_below, is_same, weight, weight_at, weight_sum, zero_weight, ◌≺◌, ◌≼◌, ◌⊕◌}
pub use Rattle.mat_sets.specs.declared.weight.Weight.{Weight}
pub use Rattle.mat_sets.proofs.Cardinalities.{length-exchange_one, length-minus-intersection, length-with_one, length-without_one}
pub use Rattle.mat_sets.proofs.Changes.{AllBelow-with_one, with_one-both, with_one-returned, with_one-swapped, without_one-two, without_one-with_one}
pub use Rattle.mat_sets.proofs.DisjointSets.{minus_parts, no_member, with_one-holds}
pub use Rattle.mat_sets.proofs.Ground.{AllBelow-append, AllBelow-filter, AllBelow-member, AllBelow-subset, AreDistinct-rising, IsRising-all_below, IsSubset-all_below, below_member, is_member-all_below, length-complement}
pub use Rattle.mat_sets.proofs.ListParts.{AreDistinct-append, is_member-tail, member_differs}
pub use Rattle.mat_sets.proofs.Members.{IsRising-intersection, IsRising-minus, IsRising-nil, IsRising-union, IsRising-with_one, IsRising-without_one, RisesFrom-filter, is_member-append, is_member-filter, is_member-get_or, is_member-head, is_member-minus, is_member-union, is_member-with_one}
pub use Rattle.mat_sets.proofs.Members.{place_of_member, same_members, set_members, with_one-member}
pub use Rattle.mat_sets.proofs.Search.{some_below_from, some_below_gives, some_below_none, some_subset_from, some_subset_gives, some_subset_none}
pub use Rattle.mat_sets.proofs.Subsets.{IsSubset-refl, IsSubset-trans, IsSubset-with_one, find_member, intersection-left, intersection-right, length-subset, minus-IsSubset, minus-both, same_size_subset, subsets_equal, union-left, with_one-IsSubset, without_one-IsSubset}
pub use Rattle.mat_sets.proofs.Truths.{or_none, same_truth}
pub use Rattle.mat_sets.proofs.WeightOrder.{at_most_not, at_most_or_below, below_gives, not_at_most, not_below_from, not_below_gives, pairs, same_from, same_gives}
pub use Rattle.mat_sets.proofs.WeightSums.{weight_sum-exchange_one, weight_sum-plus, weight_sum-with_one, weight_sum-without_one}
pub use Rattle.mat_laws.specs.Exchanges.{HasSymmetricPartner, IsTriangular, row_of}
pub use Rattle.mat_laws.specs.GreedyRuns.{grown_along, grown_by}
pub use Rattle.mat_laws.specs.Heaviest.{IsHeaviest, IsLocallyHeaviest}
pub use Rattle.mat_laws.specs.Matroids.{IsBase, IsMatroid, IsMaximal}
pub use Rattle.mat_laws.specs.Ranks.{IsRank, has_independent}
unfoldable pub use Rattle.mat_laws.specs.Ranks.{largest_up_to, rank}
pub use Rattle.mat_laws.specs.TightPaths.{Exchanges, exchanges_at, is_heaviest_addable, is_tight}
pub use Rattle.mat_laws.specs.declared.exchange.Exchange.{Exchange}
