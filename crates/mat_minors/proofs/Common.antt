-- The names that the proofs of this crate take from elsewhere and from its specs, passed on from one place. Declares nothing.
pub use Rattle.std.proofs.Common.{Bool, Err, IfOk, List, None, Ok, Option, Result, Some, [], ap, append_assoc, arith, cond, drop, eq-eqb, eqb, eqb-true, false, get_or, if◌then◌else◌, inl, inr, le-leb, leb, leb-true, length, lt-ltb, ltb, ltb-true, ne_eqb, not, refl, reverse, subst, sym, take, true}
pub use Rattle.std.proofs.Common.{ℕ, ◌&&◌, ◌++◌, ◌+◌, ◌<◌, ◌||◌, ◌∙◌, ◌∷◌, ◌≡◌, ◌≤◌, ◌⊎◌}
pub use Rattle.std.proofs.lemmas.Bool.{and_from, and_parts, and_right, both_ways, cases_Bool, cases_eq, false_from_ne_true, not-true, or_cases, or_left, or_right}
pub use Rattle.std.proofs.lemmas.Bool.Decides.{nat_tests}
pub use Rattle.std.proofs.lemmas.Result.{IfOk-weaker}
pub use Rattle.mat_sets.specs.Sets.{AllBelow, AreDistinct, IsRising, IsSet, IsSubset, is_member}
unfoldable pub use Rattle.mat_sets.specs.Sets.{all_below, intersection, minus, union, with_one, without_one}
pub use Rattle.mat_sets.proofs.Cardinalities.{length-exchange_one, length-minus-intersection, length-union_apart, length-with_one, length-without_one}
pub use Rattle.mat_sets.proofs.DisjointSets.{apart_at, apart_from, apart_with, in_complement, inside_test, inside_test_from, minus_from, minus_parts, union-with_one_left, with_one-holds, without_one-union}
pub use Rattle.mat_sets.proofs.DistinctLists.{AreDistinct-filter}
pub use Rattle.mat_sets.proofs.Ground.{AllBelow-append, AllBelow-filter, AllBelow-from_members, AllBelow-member, AllBelow-subset, AreDistinct-rising, IsRising-all_below, IsSet-all_below, IsSet-minus, IsSet-nil, IsSet-union, IsSet-with_one, IsSet-without_one, IsSubset-all_below, below_member}
pub use Rattle.mat_sets.proofs.Ground.{is_member-all_below}
pub use Rattle.mat_sets.proofs.Members.{IsRising-intersection, IsRising-minus, IsRising-union, IsRising-with_one, IsRising-without_one, filter_same_at, is_member-append, is_member-filter, is_member-intersection, is_member-minus, is_member-union, is_member-with_one, minus-none, same_members}
pub use Rattle.mat_sets.proofs.Members.{set_members}
pub use Rattle.mat_sets.proofs.Subsets.{IsSubset-refl, IsSubset-trans, IsSubset-with_one, length-subset, minus-IsSubset, subset_or, union-right, with_one-IsSubset, without_one-IsSubset}
pub use Rattle.mat_sets.proofs.Truths.{and_all, or_none}
pub use Rattle.mat_laws.specs.Exchanges.{row_of}
pub use Rattle.mat_laws.specs.GreedyRuns.{grown_along, grown_by}
pub use Rattle.mat_laws.specs.Matroids.{IsBase, IsMatroid, IsMaximal}
pub use Rattle.mat_laws.specs.declared.exchange.Exchange.{Exchange}
pub use Rattle.mat_laws.proofs.Growing.{maximal_from_none}
pub use Rattle.mat_laws.proofs.Independent.{below, less_one, rising}
pub use Rattle.mat_laws.proofs.Maximal.{IsBase-maximal, IsBase-size, IsMaximal-largest, base_largest}
pub use Rattle.mat_laws.proofs.Rows.{exchanged, row-addable, row-with, row_outside}
pub use Rattle.mat_minors.specs.ContractionLaws.{IsJoined, IsJoined-from, IsJoined-gives, contraction-from, contraction-gives, same_joined}
pub use Rattle.mat_minors.specs.DualLaws.{dual-from, dual-gives}
pub use Rattle.mat_minors.specs.DualRows.{IsDualKept, at_same_base, kept_row}
pub use Rattle.mat_minors.specs.MinorLaws.{contracted_laws, dual_laws, restricted_laws}
pub use Rattle.mat_minors.specs.Minors.{IsContraction, IsDualIndependent, is_contracted, is_dual, is_restricted, is_truncated}
