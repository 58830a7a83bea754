-- The names that the proofs of this crate take from elsewhere and from its specs, passed on from one place. Declares nothing.
pub use Rattle.std.proofs.Common.{List, [], ap, arith, eq-eqb, eqb, eqb-true, false, get_or, inl, inr, length, lt-ltb, ltb, map, not, pos, refl, replicate, subst, suc, sym, take, true, ℕ, ◌&&◌, ◌+◌, ◌-◌, ◌<◌, ◌∙◌, ◌∷◌, ◌≡◌, ◌≢◌, ◌≤◌, ◌⊎◌}
pub use Rattle.std.proofs.lemmas.Bool.{and_from, and_parts, both_ways, cases_eq, cases_lt, false_from_ne_true, not-true, or_cases, or_left, or_right}
pub use Rattle.mat_sets.specs.Graphs.{IsGraph, ends_of}
pub use Rattle.mat_sets.specs.Sets.{AllBelow, IsRising, IsSet, IsSubset, is_member}
unfoldable pub use Rattle.mat_sets.specs.Sets.{all_below, minus, union, with_one}
pub use Rattle.mat_sets.proofs.Ground.{AllBelow-from_members, IsRising-all_below, IsSet-with_one, below_member, is_member-all_below}
pub use Rattle.mat_sets.proofs.Members.{IsRising-minus, IsRising-nil, IsRising-union, is_member-filter, is_member-minus, is_member-union, is_member-with_one}
pub use Rattle.mat_sets.proofs.OneToOne.{length-covered, length-one_to_one}
pub use Rattle.mat_sets.proofs.Subsets.{IsSubset-refl, find_member, minus-IsSubset}
pub use Rattle.mat_laws.specs.Ladders.{IsCut, IsRung}
unfoldable pub use Rattle.mat_laws.specs.Ranks.{rank}
pub use Rattle.mat_laws.proofs.RankLaws.{maximal_in, rank-maximal, rank-subset, rank_is}
pub use Rattle.mat_count.specs.Labels.{AreApart, one_each}
unfoldable pub use Rattle.mat_count.specs.Labels.{caps_by, classes_by}
pub use Rattle.mat_graphic.specs.ForestLaws.{IsForest-from_test, graphic_laws, test_from-IsForest}
pub use Rattle.mat_graphic.specs.Forests.{is_graphic}
unfoldable pub use Rattle.mat_graphic.specs.Forests.{is_forest, number_of_components}
pub use Rattle.mat_graphic.proofs.ComponentCounts.{rank_and_number}
pub use Rattle.mat_fronts.specs.Once.{AreLabelsOf, is_once}
pub use Rattle.mat_fronts.specs.Rainbow.{IsColouring, IsMissingColours, IsRainbowTree, edges_without}
