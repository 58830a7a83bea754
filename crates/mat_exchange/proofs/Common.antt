-- The names that the proofs of this crate take from elsewhere and from its specs, passed on from one place. Declares nothing.
pub use Rattle.std.proofs.Common.{Bool, IfSome, List, None, Option, SFits, Some, [], ap, arith, cond, eq-eqb, eqb, eqb-true, false, get_or, get_or-set_other, get_or-set_same, if◌then◌else◌, inl, inr, le-ltb, length, length-set, lt-ltb, ltb, ltb-true, ne_eqb, not, pos, refl, replicate, rules, set}
pub use Rattle.std.proofs.Common.{subst, suc, sym, take, true, w64, zero, ℕ, ℤ, ◌&&◌, ◌*◌, ◌+ℤ◌, ◌+◌, ◌-◌, ◌/◌, ◌<◌, ◌==◌, ◌^◌, ◌||◌, ◌↔◌, ◌∙◌, ◌≡◌, ◌≢◌, ◌≤ℤ◌, ◌≤◌, ◌⊎◌}
pub use Rattle.std.proofs.lemmas.Bool.{and_from, and_left, and_parts, and_right, both_ways, cases_Bool, cases_eq, cases_lt, cond-false, cond-true, false_from_ne_true, false≢true, not-true, or_cases, or_left, or_right, true_from_ne_false}
pub use Rattle.std.proofs.lemmas.Int.{ints}
pub use Rattle.std.proofs.lemmas.List.{get_or-map, get_or-replicate, get_or_default, get_or_past, length-map, length-replicate, same_lists}
pub use Rattle.std.proofs.lemmas.Result.{IfOk-weaker, on_ok_weaker}
unfoldable pub use Rattle.mat_sets.specs.Bits.{bits_of}
pub use Rattle.mat_sets.specs.Limits.{largest_number, largest_weight, most_elements, split_room}
pub use Rattle.mat_sets.specs.Rows.{AreRemoved, IsEntered, row_at}
pub use Rattle.mat_sets.specs.Search.{IsFirstFrom, IsNextFrom}
unfoldable pub use Rattle.mat_sets.specs.Search.{some_below}
pub use Rattle.mat_sets.specs.Sets.{AllBelow, IsSet, IsSubset, is_member}
unfoldable pub use Rattle.mat_sets.specs.Sets.{all_below, minus, union, with_one, without_one}
pub use Rattle.mat_sets.specs.Walks.{IsChordless, IsReachedSet, IsWalk}
pub use Rattle.mat_sets.specs.Weights.{AreWeightsWithin, IsWeightWithin, is_below, is_same, negated, weight_at, zero_weight, ◌≺◌, ◌≼◌, ◌⊕◌, ◌⊖◌}
pub use Rattle.mat_sets.specs.declared.weight.Weight.{Weight}
pub use Rattle.mat_sets.proofs.BitMembers.{cleared, cleared-less}
pub use Rattle.mat_sets.proofs.Bits.{is_member-at, none_past}
pub use Rattle.mat_sets.proofs.Cardinalities.{length-with_one}
pub use Rattle.mat_sets.proofs.Ground.{AllBelow-from_members, AllBelow-member, AllBelow-subset, IsRising-all_below, IsSet-length, IsSet-nil, IsSet-with_one, IsSubset-all_below, below_member, get_or-all_below, get_or-map_all_below, is_member-all_below, length-all_below, length-map_all_below}
pub use Rattle.mat_sets.proofs.Members.{IsRising-minus, IsRising-nil, IsRising-union, IsRising-with_one, IsRising-without_one, is_member-filter, is_member-minus, is_member-with_one, is_member-without_one, same_members, set_members}
pub use Rattle.mat_sets.proofs.Reach.{missed_goals_have_no_walk, reached_by_induction, shortest_walk_is_chordless}
pub use Rattle.mat_sets.proofs.Steps.{is_member-take_more, written_back}
pub use Rattle.mat_sets.proofs.Subsets.{length-subset, minus-IsSubset, with_one-IsSubset}
pub use Rattle.mat_sets.proofs.Sums.{AllBelow-at}
pub use Rattle.mat_sets.proofs.Truths.{and_all, and_neither, ltb-other, or_commute, or_none}
pub use Rattle.mat_sets.proofs.WeightOrder.{at_most_both, at_most_same, at_most_trans, below_at_most, below_gives, by_below, not_below_gives, pairs, same_from, same_gives, weight_within_at}
pub use Rattle.mat_laws.specs.Exchanges.{circuit_members, row_of, rows_of}
pub use Rattle.mat_laws.specs.Heaviest.{IsHeaviest}
pub use Rattle.mat_laws.specs.Matroids.{IsMatroid}
pub use Rattle.mat_laws.specs.Slacks.{IsLeastSlack, IsLeastSlackOrNone, IsSlack}
pub use Rattle.mat_laws.specs.TightPaths.{Exchanges, IsStuckReach, IsTightPath, exchanged_along, exchanges_at, exchanges_in, is_heaviest_addable, is_tight, row_in}
pub use Rattle.mat_laws.specs.declared.exchange.Exchange.{Exchange}
pub use Rattle.mat_laws.proofs.Independent.{below, rising}
pub use Rattle.mat_laws.proofs.Rows.{row_of-adds, row_of-trades, same_row}
pub use Rattle.mat_laws.proofs.TightArcs.{IsExchangeable, IsHeaviestAddable, addable_from, addable_gives, exchangeable_from, exchangeable_gives, heaviest_addable_from, heaviest_addable_gives, lighter_addable, tight_first, tight_from_inside, tight_from_outside, tight_second}
pub use Rattle.mat_exchange.specs.Changes.{IsChange, change_room, lowered, raised}
pub use Rattle.mat_exchange.specs.Growing.{EndsSearch, HasNoSlack, IsEntry, IsFringe, IsGrown, IsGrownSplit, IsHeaviestOf, IsHeaviestOrNone, IsMet, IsNextStep, IsOffered, NoExchangeGains, StaysHeaviest, entry_gain, excess_of, gain_at, heavier_of, leads, sum_at}
pub use Rattle.mat_exchange.specs.HeaviestAddable.{IsHeaviestWeight, IsHeaviestWeightOrNone, greater_of, is_above}
pub use Rattle.mat_exchange.specs.HeaviestMembers.{IsHeaviestTo, IsHeaviestToOrNone, heavier_of_two, in_bucket}
pub use Rattle.mat_exchange.specs.RowTables.{AgreeOn, AreLost, AreTransposed, AreWhole, IsFilledTable, entered_to, row_from, table_of, written}
pub use Rattle.mat_exchange.specs.Searching.{HasNoTightPath, IsFound, is_stuck}
pub use Rattle.mat_exchange.specs.SlackParts.{IsAdditionSlack, IsExchangeSlack, IsExchangeSlackAt, IsLeast, IsLeastOrNone, lesser_of}
pub use Rattle.mat_exchange.specs.Tables.{IsTableAt}
pub use Rattle.mat_exchange.specs.Tops.{AreTops, top_at}
pub use Rattle.mat_exchange.specs.declared.found.Found.{Found}
pub use Rattle.mat_exchange.specs.declared.found.Found.TheVariants.{Path, Stuck}
pub use Rattle.mat_exchange.specs.declared.steps.NextStep.{NextStep}
pub use Rattle.mat_exchange.specs.declared.steps.NextStep.TheVariants.{Enter, Nothing, Sink}
