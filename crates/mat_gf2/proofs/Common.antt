-- The names that the proofs of this crate take from elsewhere and from its specs, passed on from one place. Declares nothing.
pub use Rattle.std.proofs.Common.{All, Bool, Err, IfOk, List, Ok, Result, [], ap, arith, bit_and, cond, count_ones, drop, eq-eqb, eqb, false, get_or, inl, inr, length, ltb, ltb-true, min, ne_eqb, not, pow_pos, refl, slice_index_or, subst, suc, sym, take, true, zero, ℕ, ◌%◌, ◌&&◌, ◌*◌, ◌++◌, ◌+◌}
pub use Rattle.std.proofs.Common.{◌-◌, ◌/◌, ◌<◌, ◌^◌, ◌||◌, ◌∙◌, ◌∷◌, ◌≡◌, ◌≢◌, ◌≤◌, ◌⊎◌}
pub use Rattle.std.proofs.lemmas.Bool.{and_from, and_parts, both_ways, cases_Bool, cases_eq, cases_lt, eqb-false, false_from_ne_true, false≢true, or_cases, or_left, or_right}
pub use Rattle.std.proofs.lemmas.List.{drop_all, drop_more, get_or_default}
pub use Rattle.std.proofs.lemmas.Nat.{and_comm, and_shr, one_shl, xor_comm, xor_shr}
pub use Rattle.std.proofs.lemmas.Nat.Bits.{and_pow, bit_at-lt, bit_at-pow_other, bit_at-pow_same, bit_at-zero, bit_at_and, bit_at_lowest, bit_at_xor, same_from_bits_below, shr_and_one}
unfoldable pub use Rattle.mat_sets.specs.SetTests.{is_set}
pub use Rattle.mat_sets.specs.Sets.{AllBelow, IsRising, IsSet, IsSubset, RisesFrom, is_member}
unfoldable pub use Rattle.mat_sets.specs.Sets.{with_one, without_one}
pub use Rattle.mat_sets.proofs.Ground.{IsSet-from, IsSet-length, IsSet-without_one, below_member}
pub use Rattle.mat_sets.proofs.Members.{IsRising-with_one, IsRising-without_one, RisesFrom-filter, RisesFrom-suffix, RisesFrom-weaken, is_member-filter, is_member-head, is_member-with_one, missing_below, same_members, set_members}
pub use Rattle.mat_sets.proofs.SetTests.{IsSet-from_test, is_set-true, is_set-with_one, test_from-IsSet}
pub use Rattle.mat_sets.proofs.Subsets.{IsSubset-refl, IsSubset-trans, IsSubset-with_one, without_one-IsSubset}
pub use Rattle.mat_sets.proofs.Sums.{AllBelow-at}
pub use Rattle.mat_laws.specs.declared.exchange.Exchange.{Exchange}
pub use Rattle.mat_laws.proofs.GreedyRunSteps.{IsRunning, IsRunning-end, IsRunning-next, IsRunning-start}
pub use Rattle.mat_gf2.specs.Columns.{IsBinaryMatrix, IsLinearlyIndependent, column_of, is_gf2, xor_of}
unfoldable pub use Rattle.mat_gf2.specs.Columns.{is_linearly_independent}
pub use Rattle.mat_gf2.specs.Eliminations.{reduced, reduced_by}
unfoldable pub use Rattle.mat_gf2.specs.Eliminations.{remainder}
pub use Rattle.mat_gf2.specs.InnerProducts.{inner_product_is_one}
pub use Rattle.mat_gf2.specs.LeadingBitLaws.{IsLeadingBit, bit_cases, leading_bit, leading_bit-is, pow-le, reduced-clear, reduced-set, xor_both, xor_cancel}
pub use Rattle.mat_gf2.specs.ParityChecks.{IsParityCheck, IsTransposed}
pub use Rattle.mat_gf2.specs.SpanLaws.{InSpan, IsLinearlyIndependent-from_test, IsLinearlyIndependent-more, IsLinearlyIndependent-subset, dependent-with_sum, in_span-from_remainder, left_of_independent, remainder-own, remainder-sum, remainder-xor, tail-IsSubset, test_from-IsLinearlyIndependent}
pub use Rattle.mat_gf2.specs.SpanLaws.{test_with_one, xor_of-without_one}
pub use Rattle.mat_gf2.specs.TaggedColumns.{IsTaggedBasis, marked, reduced_tagged, reduced_tagged_by}
unfoldable pub use Rattle.mat_gf2.specs.TaggedColumns.{marked_from}
pub use Rattle.mat_gf2.specs.declared.elimination.TaggedColumn.{TaggedColumn}
