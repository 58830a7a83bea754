-- The names that the proofs of this crate take from elsewhere and from its specs, passed on from one place. Declares nothing.
pub use Rattle.std.proofs.Common.{Bool, Contains, FitsSigned, IsPermutation, IsSorted, List, Ordering, [], ap, arith, false, get_or, if◌then◌else◌, inl, inr, length, length-append, map, negsuc, not, pos, refl, subst, suc, sym, take, true, unsigned_abs, zero, ℕ, ℤ, ◌%◌, ◌&&◌, ◌*◌, ◌++◌, ◌+ℤ◌, ◌+◌}
pub use Rattle.std.proofs.Common.{◌-ℤ◌, ◌-◌, ◌<◌, ◌^◌, ◌∙◌, ◌∷◌, ◌≡◌, ◌≤ℤ◌, ◌≤◌}
pub use Rattle.std.proofs.lemmas.Bool.{and_parts, both_ways, cases_eq, cases_lt, cases_order, not-true}
pub use Rattle.std.proofs.lemmas.Int.{ints}
pub use Rattle.std.proofs.lemmas.List.{get_or-map, length-map, map-append, map_push}
pub use Rattle.std.proofs.lemmas.List.Elements.{All-nil, All-push, All-weaker, Contains-append_left, Contains-push}
pub use Rattle.std.proofs.lemmas.List.Sorted.{All-permutation, Contains-permutation, IsPermutation-map, length_permutation}
pub use Rattle.std.proofs.lemmas.Result.{IfOk-weaker}
pub use Rattle.mat_sets.specs.Sets.{AllBelow, AreDistinct, is_member}
unfoldable pub use Rattle.mat_sets.specs.Sets.{all_below, with_one}
pub use Rattle.mat_sets.specs.Weights.{AreWeightsWithin, weight_at, weight_sum, zero_weight, ◌≼◌, ◌⊕◌}
pub use Rattle.mat_sets.specs.declared.weight.Weight.{Weight}
pub use Rattle.mat_sets.proofs.Ground.{AllBelow-from_members, AllBelow-member, IsRising-all_below, IsSet-length}
pub use Rattle.mat_sets.proofs.WeightOrder.{pairs, weight_within_at}
pub use Rattle.mat_laws.specs.GreedyRuns.{grown_along}
pub use Rattle.mat_laws.specs.Matroids.{IsMatroid, IsMaximal}
pub use Rattle.mat_laws.proofs.GreedyRunTraces.{IsTracing, IsTracing-next, IsTracing-start, traced}
pub use Rattle.mat_laws.proofs.Independent.{below, rising}
pub use Rattle.mat_greedy.specs.Greedy.{AreHeaviestEach, AreHeaviestWeights}
pub use Rattle.mat_greedy.specs.Order.{AreKeys, AreRanked, IsFallingOrder, IsShort, IsWeighed, Ranked, key_bound, key_of, most_keys, number_of, ranked_by}
