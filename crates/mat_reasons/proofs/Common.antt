-- The names that the proofs of this crate take from elsewhere and from its specs, passed on from one place. Declares nothing.
pub use Rattle.std.proofs.Common.{All, List, None, [], ap, arith, false, get_or, inl, inr, length, map, neg_ℤ, not, refl, rules, subst, sym, take, true, ℕ, ℤ, ◌++◌, ◌+◌, ◌<◌, ◌∙◌, ◌∷◌, ◌≡◌, ◌≤◌}
pub use Rattle.std.proofs.lemmas.Int.{ints}
pub use Rattle.std.proofs.lemmas.List.{get_or-map, length-map, map_more}
pub use Rattle.mat_sets.specs.Graphs.{ends_of, enters}
pub use Rattle.mat_sets.specs.Limits.{largest_number, most_elements}
unfoldable pub use Rattle.mat_sets.specs.Search.{those_below}
pub use Rattle.mat_sets.specs.Sets.{AllBelow, IsSet, is_member}
unfoldable pub use Rattle.mat_sets.specs.Sets.{with_one}
pub use Rattle.mat_sets.specs.Weights.{AreWeightsWithin, IsWeightWithin, is_below, negated, weight_at, zero_weight, ◌≺◌, ◌≼◌}
pub use Rattle.mat_sets.specs.declared.weight.Weight.{Weight}
pub use Rattle.mat_sets.proofs.Ground.{IsSet-length, IsSet-minus}
pub use Rattle.mat_sets.proofs.Values.{AreValuesBelow, AreValuesBelow-put, AreValuesBelow-skip, AreValuesBelow-start}
pub use Rattle.mat_reasons.specs.Classes.{are_together}
pub use Rattle.mat_reasons.specs.FirstHeaviest.{IsFirstHeaviest}
pub use Rattle.mat_reasons.specs.Sums.{AreSummable, HasSummableShares, has_tie}
