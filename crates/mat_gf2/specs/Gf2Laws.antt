-- The sets of linearly independent columns obey the laws of a matroid. For the augmentation law, an element of J of whose column something is left
-- by elimination with I is sought; if there were none, J would be no larger than I (Schrijver, chapter 39).
use Rattle.std.proofs.Common.{◌≡◌, ℕ, ◌<◌, Bool, true, false, not, ◌&&◌, eqb, List, [], length, inl, inr, refl, arith}
use Rattle.std.proofs.lemmas.Bool.{cases_Bool, eqb-true, eqb-false, and_parts, and_from, not-true}
use Rattle.std.proofs.lemmas.Bool.Decides.{nat_tests}
use Rattle.mat_sets.specs.Sets.{is_member, with_one}
use Rattle.mat_sets.specs.SetTests.{is_set}
use Rattle.mat_sets.specs.Search.{some_subset}
use Rattle.mat_sets.proofs.Subsets.{find_member}
use Rattle.mat_sets.proofs.Ground.{below_member, IsSet-subset}
use Rattle.mat_sets.proofs.SetTests.{IsSet-from_test, test_from-IsSet, is_set-with_one}
use Rattle.mat_laws.specs.Matroids.{IsMatroid, Augments}
use Rattle.mat_gf2.specs.Columns.{is_linearly_independent, is_gf2}
use Rattle.mat_gf2.specs.Eliminations.{remainder}
use Rattle.mat_gf2.specs.SpanLaws.{remainder-own, IsLinearlyIndependent-subset, IsLinearlyIndependent-from_test, test_from-IsLinearlyIndependent, test_with_one}
use Rattle.mat_gf2.specs.PivotLaws.{length-spanned}

gf2_empty : (n : ℕ) (column : ℕ → ℕ) → is_gf2 n column [] ≡ true
unfolding is_linearly_independent is_set some_subset
gf2_empty n column = refl

-- whether e is outside I and something is left of its column
abbrev extends : (ℕ → ℕ) → List ℕ → ℕ → Bool
extends column I e = not (is_member e I) && not (eqb (remainder column I (column e)) 0)

-- nothing is left of the column of an element that does not extend I
nothing_left : (column : ℕ → ℕ) (I : List ℕ) (e : ℕ) → extends column I e ≡ false → remainder column I (column e) ≡ 0
nothing_left column I e h = elim (cases_Bool (is_member e I)) [
  | inl k ↦ remainder-own column I e k
  | inr k ↦ eqb-true _ _ (none (is_member e I) (eqb (remainder column I (column e)) 0) h k)
]
  where
    none : (a b : Bool) → (not a && not b) ≡ false → a ≡ false → b ≡ true
    none a b h k = grind (arith, nat_tests)

gf2_augments : (n : ℕ) (column : ℕ → ℕ) (I J : List ℕ) → is_gf2 n column I ≡ true → is_gf2 n column J ≡ true → length I < length J
    → Augments (is_gf2 n column) I J
gf2_augments n column I J i j less =
    let a = and_parts (is_set n I) (is_linearly_independent column I) i in
    let b = and_parts (is_set n J) (is_linearly_independent column J) j in
    let set = IsSet-from_test n I a.0 in
    let other = IsSet-from_test n J b.0 in
    elim (find_member (extends column I) J) [
      | inl w ↦ (let c = and_parts (not (is_member w.0 I)) (not (eqb (remainder column I (column w.0)) 0)) w.2 in
          record {
            element = w.0;
            inside = w.1;
            outside = not-true _ c.0;
            augmented = and_from (is_set n (with_one I w.0)) (is_linearly_independent column (with_one I w.0))
                (is_set-with_one n I w.0 set (below_member other w.1))
                (test_with_one column I w.0 set.rising a.1 (eqb-false _ _ (not-true _ c.1)));
          })
      | inr none ↦ absurd (let most = length-spanned column I J set.rising other.rising
          (IsLinearlyIndependent-from_test column I set.rising a.1) (IsLinearlyIndependent-from_test column J other.rising b.1)
          (λ e m. nothing_left column I e (none e m)) in omega arith)
    ]

pub gf2_laws : (n : ℕ) (column : ℕ → ℕ) → IsMatroid n (is_gf2 n column)
gf2_laws n column = record {
  empty = gf2_empty n column;
  subsets = λ I J rising sub ok.
      let a = and_parts (is_set n J) (is_linearly_independent column J) ok in
      let set = IsSet-from_test n J a.0 in
      and_from (is_set n I) (is_linearly_independent column I)
      (test_from-IsSet n I (IsSet-subset n I J rising sub set))
      (test_from-IsLinearlyIndependent column I rising
      (IsLinearlyIndependent-subset column I J sub (IsLinearlyIndependent-from_test column J set.rising a.1)));
  augmentation = gf2_augments n column;
  sets = λ I i. IsSet-from_test n I (and_parts (is_set n I) (is_linearly_independent column I) i).0;
}
