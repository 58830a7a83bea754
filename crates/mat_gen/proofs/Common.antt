-- The names that the proofs of this crate take from elsewhere and from its specs, passed on from one place. Declares nothing.
pub use Rattle.std.proofs.Common.{Err, IfOk, List, Ok, Result, [], ap, arith, eqb, get_or, length, map, mul-suc, pos, refl, replicate, rules, slice_index_or, subst, suc, sym, zero, ℕ, ◌%◌, ◌*◌, ◌++◌, ◌+◌, ◌-ℤ◌, ◌/◌, ◌<◌, ◌∙◌, ◌∷◌, ◌≡◌, ◌≤◌}
pub use Rattle.std.proofs.lemmas.List.{get_or_read, length-replicate}
pub use Rattle.mat_sets.specs.Sets.{IsSet}
unfoldable pub use Rattle.mat_sets.specs.Sets.{all_below}
pub use Rattle.mat_sets.specs.declared.weight.Weight.{Weight}
pub use Rattle.mat_sets.proofs.Ground.{get_or-map_all_below, length-map_all_below, map-all_below_more, map-all_below_none}
pub use Rattle.mat_sets.proofs.Search.{IsSet-those_below, those_below-same}
pub use Rattle.mat_count.specs.Labels.{labelled}
unfoldable pub use Rattle.mat_count.specs.Labels.{classes_by}
pub use Rattle.mat_any.specs.Trees.{Tree, graphic, partition}
pub use Rattle.mat_problem.specs.Instances.{Instance, pair}
pub use Rattle.mat_gen.specs.Draws.{draw, next_state}
unfoldable pub use Rattle.mat_gen.specs.Draws.{state_after}
pub use Rattle.mat_gen.specs.Samples.{class_drawn, numbers_drawn, pair_drawn, pairs_drawn, sample_of, weight_from, weight_of, weights_drawn, weights_from}
