-- The weights of a solution are small: that of a set is the sum of at most 500 weights, and those of a split are within the bound.
use Rattle.mat_solve.proofs.Common.{◌≡◌, ℕ, ◌*◌, ◌^◌, ◌<◌, ◌≤◌, Bool, List, length, get_or, sym, ap, subst, ◌∙◌, arith, map, slice_index, length-map, get_or-map, slice_get-get_or, largest_weight, most_elements, family_union, ends_of, IsSet, Weight, weight, weight_at, AreWeightsWithin, IsSet-length}
use Rattle.mat_solve.proofs.Common.{weight_within_at, IsSet-family_union, split_bound, is_graphic, AreFalling, level_at, row_at, column_at, is_once, is_independent, IsValid, Instance, Certificate, best, certificate_text, IsRanged, IsRangedLadder, IsPrinted, IsPrintedRung, IsPrintedWeight, LevelLine}
use Rattle.mat_solve.proofs.Common.{PlainRung, PricedRung, IsRightPricedRung, IsRightLadder, AreRightRungs, level_of, IsSolution, HaveBoundedSplits}
use Rattle.std.specs.List.{All}
use Rattle.mat_cert.proofs.PrintedLengths.{length-printed_text}
use Rattle.mat_check.proofs.AnswerForms.{OnEachForm, by_right}
use Rattle.mat_solve.proofs.PricedLadder.{split_bound-small}
use Rattle.mat_solve.proofs.SetWeights.{weight_within_more, within_set}

-- the weight of a set of at most 500 elements, where it is the one that is told
printed_set : (w : List Weight) (X : List ℕ) (told : Weight) → told ≡ weight w X → AreWeightsWithin largest_weight w → length X ≤ most_elements
    → IsPrintedWeight told
printed_set w X told priced small few =
    let sum : IsPrintedWeight (weight w X) = weight_within_more (5 * 10 ^ 14) (3 * 10 ^ 20) (weight w X) (omega arith) (within_set w X small few) in
    subst IsPrintedWeight (sym priced) sum

-- a half of a split
printed_half : (n : ℕ) (half : List Weight) → n ≤ most_elements → AreWeightsWithin (split_bound n) half → All IsPrintedWeight half
printed_half n half few all = λ e d lt. weight_within_more (split_bound n) (3 * 10 ^ 20) (get_or half e d) (split_bound-small n few) (all e d lt)

-- a rung of at most 500 elements
printed_rung : (n k : ℕ) (p q : List ℕ → Bool) (w : List Weight) (rung : PricedRung) → n ≤ most_elements → k ≤ most_elements
    → AreWeightsWithin largest_weight w
    → IsRightPricedRung n p q w k rung → AreWeightsWithin (split_bound n) rung.first → AreWeightsWithin (split_bound n) rung.second
    → IsPrintedRung rung
printed_rung n k p q w rung few small within right first second =
    let size : length rung.set ≤ most_elements = omega (arith, right.right.size) in
    record {
      weight = printed_set w rung.set rung.weight right.priced within size;
      first = printed_half n rung.first few first;
      second = printed_half n rung.second few second;
    }

-- the rungs of a ladder
printed_rungs : (n : ℕ) (p q : List ℕ → Bool) (w : List Weight) (rungs : List PricedRung) (cut : List ℕ)
    → AreWeightsWithin largest_weight w → IsRangedLadder n rungs cut → IsRightLadder n p q w rungs cut → HaveBoundedSplits n rungs
    → All IsPrintedRung rungs
printed_rungs n p q w rungs cut small ranged right bounded = λ k d lt.
    let rung = get_or rungs k d in
    let at = slice_get-get_or rungs k d lt in
    let bounds = bounded k rung at in
    printed_rung n k p q w rung ranged.0.few (omega (arith, lt, ranged.0.few, ranged.0.no_more)) small (right.each k rung at) bounds.0 bounds.1

-- the rungs of one matroid
printed_plain_rungs : (n : ℕ) (p : List ℕ → Bool) (w : List Weight) (rungs : List PlainRung) → AreWeightsWithin largest_weight w
    → IsRanged (best n rungs) → AreRightRungs n p w rungs → All (λ rung. IsPrintedWeight rung.weight) rungs
printed_plain_rungs n p w rungs small ranged rights = λ k d lt.
    let rung = get_or rungs k d in
    let right = rights.each k rung (slice_get-get_or rungs k d lt) in
    printed_set w rung.set rung.weight right.priced small (omega (arith, lt, ranged.few, ranged.no_more, right.size))

-- the levels of a union are weights of elements
printed_levels : (w : List Weight) (levels : List LevelLine) → AreWeightsWithin largest_weight w → AreFalling w (map level_of levels)
    → All (λ level. IsPrintedWeight level.at) levels
printed_levels w levels small falling = λ j d lt.
    let given = falling.given j (omega (arith, lt, length-map levels level_of)) in
    let at : (level_at (map level_of levels) j).at ≡ (get_or levels j d).at = ap (λ level. level.at) (get_or-map level_of levels j d _ lt) in
    let within = weight_within_at largest_weight w small given.0 in
    subst IsPrintedWeight (given.2 ∙ at) (weight_within_more largest_weight (3 * 10 ^ 20) (weight_at w given.0) (omega arith) within)

-- the weight of the parts of a union together
printed_union : (n : ℕ) (w : List Weight) (told : Weight) (parts : List (List ℕ)) → AreWeightsWithin largest_weight w → n ≤ most_elements
    → All (IsSet n) parts → told ≡ weight w (family_union parts) → IsPrintedWeight told
printed_union n w told parts small few sets priced =
    let together = IsSet-family_union n parts sets in
    printed_set w (family_union parts) told priced small (omega (arith, few, IsSet-length n (family_union parts) together))

-- ---- of every form

abbrev IsPrintedOnceSolved : Instance → Certificate → Type 0
IsPrintedOnceSolved instance certificate = IsValid instance → IsSolution instance certificate → IsPrinted certificate

on_each_form : OnEachForm IsPrintedOnceSolved
on_each_form = record {
  ladder = λ w first second n rungs cut valid s.
      printed_rungs n (is_independent first) (is_independent second) w rungs cut valid.0.1 s.ranged s.right.1 s.bounded;
  single = λ w matroid n rungs valid s. printed_plain_rungs n (is_independent matroid) w rungs valid.0.1 s.ranged s.right.1;
  union = λ w matroids n told parts levels valid s. (
    printed_union n w told parts valid.0.1 s.ranged.few s.ranged.parts_in_range.each s.right.1.priced,
    printed_levels w levels valid.0.1 s.right.1.right.weights,
  );
  packing_of_none = λ w matroid n valid s. tt;
  packing = λ w matroid n bases cut valid s. tt;
  loop = λ w matroid n loop_at valid s. tt;
  covering = λ w matroid n sets cut valid s. tt;
  trees_found = λ vertices edges n sets valid s. tt;
  partition = λ vertices edges n k v classes valid s. tt;
  arborescence = λ vertices root arcs costs n cost tree first second valid s. (
    printed_set costs tree cost s.right.1 valid.5
        (omega (arith, s.ranged.few, IsSet-length n tree s.ranged.arcs_in_range)),
    printed_half n first s.ranged.few s.bounded.0,
    printed_half n second s.ranged.few s.bounded.1,
  );
  unreached_set = λ vertices root arcs costs n v set valid s. tt;
  arborescences = λ vertices root arcs costs n sets valid s. tt;
  seldom_entered = λ vertices root arcs costs n k v set valid s. tt;
  rainbow_ladder = λ vertices colours edges colour_of w n v c rungs cut missing valid s.
      printed_rungs n (is_graphic n (ends_of edges)) (is_once n colours (slice_index colour_of)) w rungs cut valid.7
      s.ranged.ladder_in_range s.right.3.ladder s.bounded;
  assignment = λ rows columns cells w n r c rungs cut valid s.
      printed_rungs n (is_once n rows (row_at cells)) (is_once n columns (column_at cells)) w rungs cut valid.4
      s.ranged.ladder_in_range s.right.3 s.bounded;
}

-- the text of a solution has less than 24,000,000 bytes
pub solution_short : (instance : Instance) (certificate : Certificate) → IsValid instance → IsSolution instance certificate
    → length (certificate_text certificate) < 24000000
solution_short instance certificate valid solution =
    length-printed_text certificate solution.ranged
    (by_right IsPrintedOnceSolved on_each_form instance certificate solution.right valid solution)
