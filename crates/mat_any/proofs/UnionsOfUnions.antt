-- A union of unions is one union: a set is divided among the matroids of both lists where some subset of it is divided among those of the
-- first, and what is left among those of the second (Schrijver, chapter 42).
use mathlib.Core.Path.{fun_ext}
use Rattle.mat_any.proofs.Common.{◌≡◌, ℕ, Bool, true, ◌&&◌, List, [], ◌∷◌, ◌++◌, length, inl, inr, refl, sym, ap, ◌∙◌, arith, cases_Bool, and_parts, and_from, eqb-true, false≢true, nil_from_length, IsRising, IsSet, IsSubset, minus, union, IsSet-minus, IsSet-subset, divides, union_test}
use Rattle.mat_sets.specs.SetTests.{is_set}
use Rattle.mat_sets.proofs.Members.{set_members, same_members, IsRising-nil, IsRising-minus, IsRising-union}
use Rattle.mat_sets.proofs.Subsets.{union-left, IsSubset-trans}
use Rattle.mat_sets.proofs.Search.{some_subset_from, some_subset_gives}
use Rattle.mat_sets.proofs.SetTests.{IsSet-from_test, test_from-IsSet}
use Rattle.mat_sets.proofs.Truths.{same_truth}

-- ---- sets

minus_nothing : (X : List ℕ) → IsRising X → minus X [] ≡ X
minus_nothing X r = same_members (minus X []) X (IsRising-minus X [] r) r (λ k. grind (arith, set_members))

module _ (X A B : List ℕ) (rx : IsRising X) (ra : IsRising A) where
  -- what joins B from outside it
  joined_rest : IsSubset A (minus X B) → minus (union B A) B ≡ A
  joined_rest s = same_members (minus (union B A) B) A (IsRising-minus (union B A) B (IsRising-union B A ra)) ra (λ k. (let i = s.inside k in grind (arith, set_members)))

  minus_twice : minus X (union B A) ≡ minus (minus X B) A
  minus_twice = same_members (minus X (union B A)) (minus (minus X B) A) (IsRising-minus X (union B A) rx) (IsRising-minus (minus X B) A (IsRising-minus X B rx))
      (λ k. grind (arith, set_members))

  minus_both : IsSubset B A → minus (minus X B) (minus A B) ≡ minus X A
  minus_both s = same_members (minus (minus X B) (minus A B)) (minus X A) (IsRising-minus (minus X B) (minus A B) (IsRising-minus X B rx)) (IsRising-minus X A rx)
      (λ k. (let i = s.inside k in grind (arith, set_members)))

-- ---- two lists of tests

-- a subset that is divided by the first list, and what is left by the second
record IsSplit (us ts : List (List ℕ → Bool)) (X : List ℕ) : Type 0 where
  pub set : List ℕ
  pub rising : IsRising set
  pub inside : IsSubset set X
  pub first : divides us set ≡ true
  pub second : divides ts (minus X set) ≡ true

split_of : (us ts : List (List ℕ → Bool)) (X : List ℕ) → IsRising X → divides (us ++ ts) X ≡ true → IsSplit us ts X
unfolding divides
split_of [] ts X r h = record {
  set = [];
  rising = IsRising-nil;
  inside = record { inside = λ x m. absurd (false≢true m) };
  first = refl;
  second = ap (divides ts) (minus_nothing X r) ∙ h;
}
split_of (u ∷ us) ts X r h =
    let w = some_subset_gives X (λ B. u B && divides (us ++ ts) (minus X B)) r h in
    let B = w.0 in
    let both = and_parts (u B) (divides (us ++ ts) (minus X B)) w.3 in
    let s = split_of us ts (minus X B) (IsRising-minus X B r) both.1 in
    let A = union B s.set in
    let ra = IsRising-union B s.set s.rising in
    record {
      set = A;
      rising = ra;
      inside = record { inside = λ k m. (let i = s.inside.inside k in let j = w.2.inside k in grind (arith, set_members)) };
      first = some_subset_from A B (λ C. u C && divides us (minus A C)) ra w.1 (union-left B s.set)
          (and_from (u B) (divides us (minus A B)) both.0 (ap (divides us) (joined_rest X s.set B r s.rising s.inside) ∙ s.first));
      second = ap (divides ts) (minus_twice X s.set B r s.rising) ∙ s.second;
    }

from_split : (us ts : List (List ℕ → Bool)) (X A : List ℕ) → IsRising X → IsRising A → IsSubset A X → divides us A ≡ true → divides ts (minus X A) ≡ true
    → divides (us ++ ts) X ≡ true
unfolding divides
from_split [] ts X A r ra s first second =
    ap (divides ts) (sym (ap (minus X) (nil_from_length A (eqb-true (length A) 0 first)) ∙ minus_nothing X r)) ∙ second
from_split (u ∷ us) ts X A r ra s first second =
    let w = some_subset_gives A (λ B. u B && divides us (minus A B)) ra first in
    let B = w.0 in
    let both = and_parts (u B) (divides us (minus A B)) w.3 in
    let within : IsSubset (minus A B) (minus X B) = record { inside = λ k m. (let i = s.inside k in grind (arith, set_members)) } in
    some_subset_from X B (λ C. u C && divides (us ++ ts) (minus X C)) r w.1 (IsSubset-trans B A X w.2 s)
    (and_from (u B) (divides (us ++ ts) (minus X B)) both.0
    (from_split us ts (minus X B) (minus A B) (IsRising-minus X B r) (IsRising-minus A B ra) within both.1
    (ap (divides ts) (minus_both X A B r ra w.2) ∙ second)))

-- ---- lists that divide the same sets

pub record DivideAlike (n : ℕ) (us vs : List (List ℕ → Bool)) : Type 0 where
  pub same : (X : List ℕ) → IsSet n X → divides us X ≡ divides vs X

pub alike_same : (n : ℕ) (us : List (List ℕ → Bool)) → DivideAlike n us us
alike_same n us = record { same = λ X s. refl }

pub alike_then : {n : ℕ} {us vs ws : List (List ℕ → Bool)} → DivideAlike n us vs → DivideAlike n vs ws → DivideAlike n us ws
alike_then a b = record { same = λ X s. a.same X s ∙ b.same X s }

pub alike_append : {n : ℕ} (us vs ts ws : List (List ℕ → Bool)) → DivideAlike n us vs → DivideAlike n ts ws → DivideAlike n (us ++ ts) (vs ++ ws)
alike_append {n} us vs ts ws a b = record {
  same = λ X s. same_truth _ _ (one_way us vs ts ws a b X s)
      (one_way vs us ws ts (record { same = λ Y r. sym (a.same Y r) }) (record { same = λ Y r. sym (b.same Y r) }) X s);
}
  where
    one_way : (us vs ts ws : List (List ℕ → Bool)) → DivideAlike n us vs → DivideAlike n ts ws → (X : List ℕ) → IsSet n X → divides (us ++ ts) X ≡ true
        → divides (vs ++ ws) X ≡ true
    one_way us vs ts ws a b X s h =
        let w = split_of us ts X s.rising h in
        from_split vs ws X w.set s.rising w.rising w.inside (sym (a.same w.set (IsSet-subset n w.set X w.rising w.inside s)) ∙ w.first)
        (sym (b.same (minus X w.set) (IsSet-minus n X w.set s)) ∙ w.second)

-- a union that stands first, and its matroids in its place
pub alike_nested : (n : ℕ) (us ts : List (List ℕ → Bool)) → DivideAlike n (union_test n us ∷ ts) (us ++ ts)
unfolding divides
alike_nested n us ts = record {
  same = λ X s. same_truth _ _
      (λ h.
      let w = some_subset_gives X (λ A. union_test n us A && divides ts (minus X A)) s.rising h in
      let A = w.0 in
      let both = and_parts (union_test n us A) (divides ts (minus X A)) w.3 in
      from_split us ts X A s.rising w.1 w.2 (and_parts (is_set n A) (divides us A) both.0).1 both.1)
      (λ h.
      let w = split_of us ts X s.rising h in
      let A = w.set in
      some_subset_from X A (λ C. union_test n us C && divides ts (minus X C)) s.rising w.rising w.inside
      (and_from (union_test n us A) (divides ts (minus X A)) (and_from (is_set n A) (divides us A) (test_from-IsSet n A (IsSet-subset n A X w.rising w.inside s)) w.first)
      w.second));
}

pub alike_test : (n : ℕ) (us vs : List (List ℕ → Bool)) → DivideAlike n us vs → (X : List ℕ) → union_test n us X ≡ union_test n vs X
alike_test n us vs a X = elim (cases_Bool (is_set n X)) [
  | inl set ↦ ap (λ b. is_set n X && b) (a.same X (IsSet-from_test n X set))
  | inr other ↦ ap (λ b. b && divides us X) other ∙ sym (ap (λ b. b && divides vs X) other)
]

-- so the two unions have one test
pub alike_tests : (n : ℕ) (us vs : List (List ℕ → Bool)) → DivideAlike n us vs → union_test n us ≡ union_test n vs
alike_tests n us vs a = fun_ext (alike_test n us vs a)
