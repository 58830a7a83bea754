-- The names that the proofs of this crate take from elsewhere and from its specs, passed on from one place. Declares nothing.
pub use Rattle.std.proofs.Common.{Bool, List, Some, [], ap, append_assoc, arith, codes, get_or, length, map, pos, refl, rules, slice_get, subst, suc, sym, take, true, zero, ℕ, ◌*◌, ◌++◌, ◌+◌, ◌-◌, ◌<◌, ◌^◌, ◌∙◌, ◌∷◌, ◌≡◌, ◌≤◌}
pub use Rattle.std.proofs.lemmas.Int.{ints}
pub use Rattle.std.proofs.lemmas.List.Elements.{All-get_or, All-head, All-tail, All-weaker}
pub use Rattle.std.proofs.lemmas.Option.{slice_get-get_or, slice_get_within}
pub use Rattle.mat_sets.specs.Limits.{largest_number, most_elements}
pub use Rattle.mat_sets.specs.Weights.{IsWeightWithin, weight, ◌⊕◌}
pub use Rattle.mat_sets.specs.declared.weight.Weight.{Weight}
pub use Rattle.mat_sets.proofs.WeightOrder.{at_most_both, pairs}
pub use Rattle.mat_words.specs.Lines.{Line, text_of}
pub use Rattle.mat_words.specs.Numbers.{numeral}
pub use Rattle.mat_words.specs.Writing.{spaced}
pub use Rattle.mat_cert.specs.Certificates.{AreRangedRungs, Certificate, IsRanged, IsRangedPricedRung, arbor, assign, intersect, trees, trees_none, union_of, unreached}
pub use Rattle.mat_cert.specs.Views.{certificate_of}
pub use Rattle.mat_cert.specs.declared.answer.PricedRung.{PricedRung}
pub use Rattle.mat_gen.specs.Samples.{sample_of}
pub use Rattle.mat_gen.specs.declared.kind.SampleKind.{SampleKind}
pub use Rattle.mat_right.specs.Right.{IsRightLadder}
pub use Rattle.mat_check.specs.Optimal.{IsOptimal, IsOptimalLadder}
pub use Rattle.mat_solve.specs.Queries.{IsAnswerOf, has_form}
pub use Rattle.mat_summary.specs.Summaries.{IsSummary, all_members, kind_word, ladder_weight, ladder_words, last_weight, query_of_kind, summary_words}
