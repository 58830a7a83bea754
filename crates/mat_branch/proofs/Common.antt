-- The names that the proofs of this crate take from elsewhere and from its specs, passed on from one place. Declares nothing.
pub use Rattle.std.proofs.Common.{Bool, List, None, Option, Some, [], ap, arith, eq-eqb, eqb, eqb-true, false, get_or, inl, inr, le-leb, leb, leb-true, length, length-append, lt-ltb, ltb, ltb-true, not, refl, subst, suc, sym, true, true≢false, zero, ℕ, ◌&&◌, ◌++◌, ◌+◌, ◌-◌, ◌<◌, ◌||◌, ◌↔◌, ◌∙◌, ◌∷◌}
pub use Rattle.std.proofs.Common.{◌≡◌, ◌≤◌, ◌⊎◌}
pub use Rattle.std.proofs.lemmas.Bool.{and_from, and_left, and_parts, and_right, both_ways, cases_Bool, cases_eq, cases_lt, false_from_ne_true, false≢true, not-true, or_cases, or_from, or_left, or_parts, or_right}
pub use Rattle.mat_sets.specs.Families.{AreDisjoint, indicator}
unfoldable pub use Rattle.mat_sets.specs.Families.{multiplicity}
pub use Rattle.mat_sets.specs.Graphs.{IsRootFree, IsSpanningArborescence, Reaches, ends_of, enters}
unfoldable pub use Rattle.mat_sets.specs.Graphs.{entering}
unfoldable pub use Rattle.mat_sets.specs.Search.{some_subset, those_below}
pub use Rattle.mat_sets.specs.Sets.{AllBelow, IsRising, IsSet, IsSubset, is_member}
unfoldable pub use Rattle.mat_sets.specs.Sets.{all_below, intersection, minus, union, with_one, without_one}
pub use Rattle.mat_sets.proofs.Cardinalities.{length-with_one, length-without_one}
pub use Rattle.mat_sets.proofs.Counting.{IsCounted, IsCounted-few, IsCounted-put, IsCounted-skip, IsCounted-start}
pub use Rattle.mat_sets.proofs.Crossings.{IsRising-entering, at_most_entering, entering-more, entering-one_less, entering-same, entering-submodular, is_member-entering, walk_enters}
pub use Rattle.mat_sets.proofs.Ground.{AllBelow-subset, IsRising-all_below, IsSet-all_below, IsSet-intersection, IsSet-minus, IsSet-nil, IsSet-union, IsSet-with_one, IsSet-without_one, IsSubset-all_below, below_member, is_member-all_below, length-all_below}
pub use Rattle.mat_sets.proofs.Members.{IsRising-without_one, is_member-get_or, is_member-intersection, is_member-union, is_member-with_one, is_member-without_one, member_from_some, only_member, place_of_member, some_from_member}
pub use Rattle.mat_sets.proofs.Search.{some_subset_gives, some_subset_none}
pub use Rattle.mat_sets.proofs.Subsets.{IsSubset-with_one, intersection-left, larger_has, length-subset, same_size_subset}
pub use Rattle.mat_sets.proofs.Walking.{Reaches-arc, Reaches-itself, Reaches-subset, Reaches-trans}
pub use Rattle.mat_branch.specs.Growth.{AreEntered, AreEnteredOutside, AreRefused, Grows, IsGrown, IsRefused, IsSeldomEnteredBy, IsTakable, TellsSeldom, TellsSpare}
pub use Rattle.mat_branch.specs.Spanning.{is_seldom_entered, is_spanning_arborescence}
unfoldable pub use Rattle.mat_branch.specs.Spanning.{some_seldom_entered}
