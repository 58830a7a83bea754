-- A base that is disjoint from J loses its members in I and grows, outside I, to a base; where I is the smaller set, that base is too
-- small to hold all of J - I, so that an element of J - I can be added to I (Whitney 1935; Schrijver, chapter 39).
use Rattle.std.proofs.Common.{◌≡◌, ℕ, ◌<◌, Bool, true, false, ◌||◌, ◌⊎◌, List, length, inl, inr, sym, ap, ◌∙◌, arith}
use Rattle.std.proofs.lemmas.Bool.{ne_eqb, or_cases, and_parts, and_from, both_ways}
use Rattle.mat_sets.specs.Sets.{is_member, IsSubset, with_one, minus, all_below}
use Rattle.mat_sets.specs.SetTests.{is_set}
use Rattle.mat_sets.specs.Search.{some_subset}
use Rattle.mat_sets.proofs.Members.{is_member-with_one, IsRising-minus}
use Rattle.mat_sets.proofs.Subsets.{IsSubset-trans, subset_or, minus-IsSubset, length-subset}
use Rattle.mat_sets.proofs.Ground.{below_member, IsSet-with_one, IsRising-all_below}
use Rattle.mat_sets.proofs.SetTests.{IsSet-from_test, test_from-IsSet}
use Rattle.mat_sets.proofs.Search.{some_subset_gives, some_subset_from}
use Rattle.mat_sets.proofs.DisjointSets.{minus_parts, minus_from, apart_at, apart_from, larger_than}
use Rattle.mat_laws.specs.Matroids.{IsMatroid, Augments}
use Rattle.mat_laws.proofs.Independent.{rising, grow_to_size}
use Rattle.mat_laws.proofs.Maximal.{IsBase-maximal, IsBase-size, IsMaximal-base, base_largest}
use Rattle.mat_minors.specs.Minors.{is_maximal, is_dual, IsDualIndependent}
use Rattle.mat_minors.specs.MaximalSubsetLaws.{is_maximal-gives, is_maximal-from}

-- what the test of the dual says
pub dual-gives : (n : ℕ) (p : List ℕ → Bool) (X : List ℕ) → is_dual n p X ≡ true → IsDualIndependent n p X
dual-gives n p X h =
    let tests = and_parts (is_set n X) (some_subset (minus (all_below n) X) (is_maximal p (all_below n))) h in
    let found = some_subset_gives (minus (all_below n) X) (is_maximal p (all_below n))
    (IsRising-minus (all_below n) X (IsRising-all_below n)) tests.1 in
    let max = is_maximal-gives p (all_below n) found.0 (IsSubset-trans found.0 _ (all_below n) found.2 (minus-IsSubset (all_below n) X)) found.3 in
    record {
      set = IsSet-from_test n X tests.0;
      base = found.0;
      is_base = IsBase-maximal n p found.0 max;
      disjoint = apart_from found.0 X (λ x m. (minus_parts (all_below n) X x (found.2.inside x m)).1);
    }

module _ {n : ℕ} {p : List ℕ → Bool} (laws : IsMatroid n p) where
  -- and the other way
  pub dual-from : (X : List ℕ) → IsDualIndependent n p X → is_dual n p X ≡ true
  dual-from X h =
      let B = h.base in
      let max = IsMaximal-base laws B h.is_base in
      let outside : IsSubset B (minus (all_below n) X) = record {
        inside = λ x m. minus_from (all_below n) X x (max.inside.inside x m) (apart_at B X h.disjoint x m);
      } in
      and_from (is_set n X) (some_subset (minus (all_below n) X) (is_maximal p (all_below n))) (test_from-IsSet n X h.set)
      (some_subset_from (minus (all_below n) X) B (is_maximal p (all_below n)) (IsRising-minus (all_below n) X (IsRising-all_below n))
      (rising laws B max.passes)
      outside (is_maximal-from p (all_below n) B max))

  -- some base is disjoint from I and has not all members of J outside I: the others can be added to I
  pub dual_augmentation : (I J : List ℕ) → IsDualIndependent n p I → IsDualIndependent n p J → length I < length J
      → Augments (is_dual n p) I J
  dual_augmentation I J i j less =
      let start = minus j.base I in
      let rj = rising laws j.base j.is_base.passes in
      let ok : p start ≡ true = laws.subsets start j.base (IsRising-minus j.base I rj) (minus-IsSubset j.base I) j.is_base.passes in
      let few = length-subset start j.base (IsRising-minus j.base I rj) rj (minus-IsSubset j.base I) in
      let g = grow_to_size laws start i.base ok i.is_base.passes (omega (arith, base_largest laws i.base start i.is_base ok)) in
      let B = g.0 in
      let r = rising laws B g.1.passes in
      let base = IsBase-size laws i.base B i.is_base g.1.passes (omega (arith, g.1.size)) in
      let apart = λ (x : ℕ) (m : is_member x B ≡ true). out_of_I x (or_cases (is_member x start) (is_member x i.base) (g.1.inside x m)) in
      elim (subset_or (minus J I) B) [
        | inr new ↦
            let x = new.0 in
            let both = minus_parts J I x new.1 in
            record {
              element = x;
              inside = both.0;
              outside = both.1;
              augmented = dual-from (with_one I x) (record {
                set = IsSet-with_one n I x i.set (below_member j.set both.0);
                base = B;
                is_base = base;
                disjoint = apart_from B (with_one I x) (λ y m. apart_from_both B y x (apart y m) m new.2);
              });
            }
        | inl all ↦ absurd (
            let more = larger_than I J j.base B i.set.rising j.set.rising rj r j.disjoint all g.1.holds less in
            let most = base_largest laws j.base B j.is_base g.1.passes in
            omega arith)
      ]
    where
      out_of_I : (x : ℕ) → (is_member x (minus j.base I) ≡ true) ⊎ (is_member x i.base ≡ true) → is_member x I ≡ false
      out_of_I x (inl m) = (minus_parts j.base I x m).1
      out_of_I x (inr m) = apart_at i.base I i.disjoint x m

      apart_from_both : (B : List ℕ) (y x : ℕ) → is_member y I ≡ false → is_member y B ≡ true → is_member x B ≡ false
          → is_member y (with_one I x) ≡ false
      apart_from_both B y x out m missing = is_member-with_one y x I
          ∙ ap (λ b. b || is_member y I) (ne_eqb y x (λ same. both_ways _ missing (ap (λ z. is_member z B) (sym same) ∙ m))) ∙ out
