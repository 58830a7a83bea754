-- The names that the proofs of this crate take from elsewhere and from its specs, passed on from one place. Declares nothing.
pub use Rattle.std.proofs.Common.{Bool, Err, List, None, Ok, Option, Result, Some, [], ap, append-nil, append_assoc, arith, bit_and, bit_or, cond, drop, drop-cons, eq-eqb, eqb, eqb-true, false, get_or, get_or-set_other, get_or-set_same, if◌then◌else◌, inl, inr, insert, le-leb, le-ltb, leb}
pub use Rattle.std.proofs.Common.{leb-false, leb-true, length, length-append, length-drop, length-set, lt-ltb, ltb, ltb-true, map, max, min, ne_eqb, neg_ℤ, not, pos, refl, replicate, reverse, rules, set, subst, suc, suc-add, sym, take, take_all, true, vec_len, w64, zero, zero-add, ℕ, ℤ, ◌%◌, ◌&&◌}
pub use Rattle.std.proofs.Common.{◌*◌, ◌++◌, ◌+ℤ◌, ◌+◌, ◌-◌, ◌/◌, ◌<ℤ◌, ◌<◌, ◌^◌, ◌||◌, ◌∙◌, ◌∷◌, ◌≡◌, ◌≢◌, ◌≤ℤ◌, ◌≤◌, ◌⊎◌}
pub use Rattle.std.proofs.lemmas.Bool.{and_from, and_left, and_parts, and_right, both_ways, cases_Bool, cases_eq, cases_lt, cases_order, cond-false, cond-true, eqb-false, false_from_ne_true, false≢true, lt-leb, not-true, not_from_false, or_cases, or_from, or_left, or_parts, or_right}
pub use Rattle.std.proofs.lemmas.Bool.Decides.{nat_tests}
pub use Rattle.std.proofs.lemmas.Int.{ints}
pub use Rattle.std.proofs.lemmas.List.{drop_all, drop_more, get_or-append_right, get_or-map, get_or-replicate, get_or_append_left, get_or_default, get_or_past, get_or_read, length-map, length-replicate, map-append, nil_from_length, reverse-append, take_more}
pub use Rattle.std.proofs.lemmas.List.Elements.{All-get_or, filter_more}
pub use Rattle.std.proofs.lemmas.Nat.{and_le_l, and_le_r, one_shl}
pub use Rattle.mat_sets.specs.Bits.{AreMembersBelow, IsWordOf}
unfoldable pub use Rattle.mat_sets.specs.Bits.{bits_of, has_bit}
pub use Rattle.mat_sets.specs.FallingWeights.{falling_weights, heavy, with_weight}
pub use Rattle.mat_sets.specs.Families.{AllRising, AreDisjoint, indicator}
unfoldable pub use Rattle.mat_sets.specs.Families.{family_sum, family_union, multiplicity}
pub use Rattle.mat_sets.specs.Rounds.{AreTaken, IsRound, IsTrace, is_next}
pub use Rattle.mat_sets.specs.Rows.{AreEmptied, AreRemoved, IsEntered, row_at}
pub use Rattle.mat_sets.specs.Search.{IsFirstFrom, IsNextFrom}
unfoldable pub use Rattle.mat_sets.specs.Search.{some_below, some_list, some_subset, those_below}
pub use Rattle.mat_sets.specs.Sets.{AllBelow, AreDistinct, IsRising, IsSet, IsSubset, RisesFrom, counted_from, is_member, rising_insert}
unfoldable pub use Rattle.mat_sets.specs.Sets.{all_below, intersection, minus, union, with_one, without_one}
pub use Rattle.mat_sets.specs.Sums.{sum_of}
pub use Rattle.mat_sets.specs.Walks.{IsChordless, IsReachedSet, IsShortestWalk, IsWalk}
pub use Rattle.mat_sets.specs.Weights.{AreWeightsWithin, IsWeightWithin, adds_up, is_below, is_same, weight, weight_at, weight_sum, zero_weight, ◌≺◌, ◌≼◌, ◌⊕◌}
pub use Rattle.mat_sets.specs.declared.weight.Weight.{Weight}
