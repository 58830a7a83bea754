-- The names that the proofs of this crate take from elsewhere and from its specs, passed on from one place. Declares nothing.
pub use Rattle.std.proofs.Common.{Bool, Global, List, None, Option, Some, Vec, [], ap, arith, eqb, eqb-true, false, get_or, inl, inr, length, map, not, refl, replicate, slice_get, subst, suc, sym, take, true, zero, ℕ, ◌&&◌, ◌*◌, ◌++◌, ◌+◌, ◌-◌, ◌<◌, ◌^◌, ◌||◌, ◌∙◌, ◌∷◌, ◌≡◌, ◌≤◌, ◌⊎◌}
pub use Rattle.std.proofs.lemmas.List.Elements.{All-from_get_or, All-get_or}
pub use Rattle.std.proofs.lemmas.Nat.{mul-le}
pub use Rattle.std.proofs.lemmas.Option.{none-some, same_Some}
pub use Rattle.mat_sets.specs.Limits.{largest_weight, most_elements, split_room}
pub use Rattle.mat_sets.specs.Sets.{IsRising, counted_from, is_member}
unfoldable pub use Rattle.mat_sets.specs.Sets.{minus, with_one, without_one}
pub use Rattle.mat_sets.specs.Weights.{AreWeightsWithin, IsWeightWithin, weight_at, zero_weight}
pub use Rattle.mat_sets.specs.declared.weight.Weight.{Weight}
pub use Rattle.mat_sets.proofs.Ground.{IsSet-length, below_member}
pub use Rattle.mat_sets.proofs.WeightOrder.{pairs, weight_within_at}
pub use Rattle.mat_laws.specs.Exchanges.{rows_of}
pub use Rattle.mat_laws.specs.Heaviest.{IsHeaviest}
pub use Rattle.mat_laws.specs.Ladders.{IsCut, IsRung, split_bound}
pub use Rattle.mat_laws.specs.Matroids.{IsMatroid}
pub use Rattle.mat_laws.specs.TightPaths.{IsStuckReach, exchanged_along, exchanges_at, exchanges_in, is_heaviest_addable, is_tight}
pub use Rattle.mat_exchange.specs.Changes.{IsSplitWithin}
pub use Rattle.mat_exchange.proofs.CutsWithoutSlack.{cut_without_slack}
pub use Rattle.mat_exchange.proofs.HeaviestExchanges.{gains_at_heaviest, gains_in_rows, heaviest_at_gains, heaviest_in_rows}
pub use Rattle.mat_exchange.proofs.RowExchanges.{IsTableAt-rows_of, rows_tell_exchanges}
pub use Rattle.mat_exchange.proofs.TightPathSteps.{exchange_along_tight_path, is_member-exchanged_along}
pub use Rattle.mat_exchange.proofs.WeightBounds.{AreWeightsWithin-from, IsWeightWithin-weaken}
pub use Rattle.mat_split.specs.Augmenting.{IsAugmented, IsSplitAt, IsSplitRung, size_bound, weights_of}
pub use Rattle.mat_split.specs.Ladders.{IsBoundedRung, IsLadder}
pub use Rattle.mat_split.specs.declared.ladder.Rung.{Rung}
