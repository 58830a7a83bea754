-- The exchanges at an independent set of a truncation, a restriction or a contraction, by those of the inner matroid: the additional
-- conditions hold of each set that an exchange makes, or of none; and the members of a maximal independent subset of the contracted
-- elements are left out.
use Rattle.mat_minors.proofs.Common.{◌≡◌, ℕ, ◌<◌, Bool, true, false, ◌&&◌, eqb, leb, ltb, List, [], length, inl, inr, refl, sym, ap, ◌∙◌, arith, cases_Bool, and_parts, both_ways, false_from_ne_true, nat_tests, is_member, IsRising, IsSet, IsSubset, with_one, without_one, minus, intersection, union}
use Rattle.mat_minors.proofs.Common.{filter_same_at, is_member-union, length-with_one, length-exchange_one, IsSubset-trans, with_one-IsSubset, without_one-IsSubset, IsSet-with_one, IsSet-without_one, inside_test, inside_test_from, apart_with, apart_at, apart_from, union-with_one_left}
use Rattle.mat_minors.proofs.Common.{with_one-holds, without_one-union, IsMatroid, IsMaximal, row_of, Exchange, rising, exchanged, row_outside, row-addable, row-with, is_truncated, is_restricted, is_contracted, IsContraction, contraction-gives, IsJoined, IsJoined-gives, IsJoined-from}
use Rattle.mat_sets.proofs.Filters.{filter_first, filter_none}

true_and : (b c : Bool) → c ≡ true → b ≡ (b && c)
true_and true c e = sym e
true_and false c e = refl

-- ---- the truncation

module _ {n : ℕ} {p : List ℕ → Bool} (laws : IsMatroid n p) where
  -- an exchange keeps the size
  pub truncated_exchanged : (cap : ℕ) (I : List ℕ) (x y : ℕ) → is_truncated cap p I ≡ true → is_member x I ≡ false → is_member y I ≡ true
      → exchanged p I x y ≡ exchanged (is_truncated cap p) I x y
  truncated_exchanged cap I x y passes out m =
      let tests = and_parts (p I) (leb (length I) cap) passes in
      true_and (exchanged p I x y) _ (ap (λ k. leb k cap) (length-exchange_one I x y (rising laws I tests.0) m out) ∙ tests.1)

  pub truncated_row : (cap : ℕ) (I : List ℕ) (x : ℕ) (inner row : Exchange) → is_truncated cap p I ≡ true → is_member x I ≡ false
      → inner ≡ row_of p I x → row.addable ≡ (inner.addable && ltb (length I) cap) → row.with ≡ inner.with
      → row ≡ row_of (is_truncated cap p) I x
  truncated_row cap I x inner row passes out told adds exchanges =
      row_outside (is_truncated cap p) I x row out
      (adds ∙ ap (λ b. b && ltb (length I) cap) (row-addable p I x inner out told) ∙ ap (λ b. p (with_one I x) && b) room)
      (exchanges ∙ row-with p I x inner out told ∙ filter_same_at (exchanged p I x) (exchanged (is_truncated cap p) I x) I
      (λ y m. truncated_exchanged cap I x y passes out m))
    where
      tests : (p I ≡ true) × (leb (length I) cap ≡ true)
      tests = and_parts (p I) (leb (length I) cap) passes

      r : IsRising I
      r = rising laws I tests.0

      room : ltb (length I) cap ≡ leb (length (with_one I x)) cap
      room = sym (ap (λ k. leb k cap) (length-with_one I x r out) ∙ grind (arith, nat_tests))

  -- ---- the restriction

  -- an exchange for an element that is kept makes a set of such elements
  pub restricted_exchanged : (kept I : List ℕ) (x y : ℕ) → is_restricted kept p I ≡ true → is_member x kept ≡ true
      → exchanged p I x y ≡ exchanged (is_restricted kept p) I x y
  restricted_exchanged kept I x y passes here =
      let inside = inside_test I kept (and_parts (p I) (eqb (length (minus I kept)) 0) passes).1 in
      true_and (exchanged p I x y) _ (inside_test_from (with_one (without_one I y) x) kept
      (with_one-IsSubset (without_one I y) kept x (IsSubset-trans (without_one I y) I kept (without_one-IsSubset I y) inside) here))

  pub restricted_row : (kept I : List ℕ) (x : ℕ) (row : Exchange) → is_restricted kept p I ≡ true → is_member x I ≡ false
      → is_member x kept ≡ true
      → row ≡ row_of p I x → row ≡ row_of (is_restricted kept p) I x
  restricted_row kept I x row passes out here told =
      row_outside (is_restricted kept p) I x row out
      (row-addable p I x row out told
      ∙ true_and (p (with_one I x)) _ (inside_test_from (with_one I x) kept (with_one-IsSubset I kept x inside here)))
      (row-with p I x row out told ∙ filter_same_at (exchanged p I x) (exchanged (is_restricted kept p) I x) I
      (λ y m. restricted_exchanged kept I x y passes here))
    where
      tests : (p I ≡ true) × (eqb (length (minus I kept)) 0 ≡ true)
      tests = and_parts (p I) (eqb (length (minus I kept)) 0) passes

      inside : IsSubset I kept
      inside = inside_test I kept tests.1

-- a set with an element that is not kept is dependent
pub restricted_fails : (p : List ℕ → Bool) (kept J : List ℕ) (x : ℕ) → is_member x kept ≡ false → is_restricted kept p (with_one J x) ≡ false
restricted_fails p kept J x gone = false_from_ne_true _ (λ h.
    let tests = and_parts (p (with_one J x)) (eqb (length (minus (with_one J x) kept)) 0) h in
    both_ways _ gone ((inside_test (with_one J x) kept tests.1).inside x (with_one-holds J x)))

-- an element that is not kept has no exchanges
pub restricted_row_outside : (p : List ℕ → Bool) (kept I : List ℕ) (x : ℕ) (row : Exchange) → is_member x I ≡ false
    → is_member x kept ≡ false
    → row.addable ≡ false → row.with ≡ [] → row ≡ row_of (is_restricted kept p) I x
restricted_row_outside p kept I x row out gone adds exchanges =
    row_outside (is_restricted kept p) I x row out (adds ∙ sym (restricted_fails p kept I x gone))
    (exchanges ∙ sym (filter_none (exchanged (is_restricted kept p) I x) I (λ y. restricted_fails p kept (without_one I y) x gone)))

-- ---- the contraction

module _ {n : ℕ} {p : List ℕ → Bool} (laws : IsMatroid n p) (away B : List ℕ) (set : IsSet n away) (max : IsMaximal p away B) where
  -- a set apart from the contracted elements is independent exactly where it is so together with B
  pub contracted_apart : (Y : List ℕ) → IsSet n Y → intersection Y away ≡ [] → is_contracted n away p Y ≡ p (union Y B)
  contracted_apart Y is none = elim (cases_Bool (p (union Y B))) [
    | inl joins ↦ IsJoined-from laws away B Y set.rising max (record { set = is; disjoint = none; joined = joins }) ∙ sym joins
    | inr fails ↦ false_from_ne_true _ (λ h. both_ways _ fails (IsJoined-gives laws away B Y set.rising max h).joined) ∙ sym fails
  ]

  pub outside_chosen : (x : ℕ) → is_member x away ≡ false → is_member x B ≡ false
  outside_chosen x out = false_from_ne_true _ (λ m. both_ways _ out (max.inside.inside x m))

  -- x is outside X and outside what is chosen of the contracted elements
  pub outside_joined : (X : List ℕ) (x : ℕ) → is_member x X ≡ false → is_member x away ≡ false → is_member x (union X B) ≡ false
  outside_joined X x o out = is_member-union x X B ∙ rw (o, outside_chosen x out) refl

  -- no member of an independent set is chosen
  pub apart_from_chosen : (X : List ℕ) (y : ℕ) → is_contracted n away p X ≡ true → is_member y X ≡ true → is_member y B ≡ false
  apart_from_chosen X y passes m =
      outside_chosen y (apart_at X away (IsJoined-gives laws away B X set.rising max passes).disjoint y m)

  -- an exchange for an element that is not contracted
  pub contracted_exchanged : (X : List ℕ) (x y : ℕ) → is_contracted n away p X ≡ true → x < n → is_member x away ≡ false → is_member y X ≡ true
      → exchanged p (union X B) x y ≡ exchanged (is_contracted n away p) X x y
  contracted_exchanged X x y passes small out m =
      sym (contracted_apart (with_one smaller x) (IsSet-with_one n smaller x (IsSet-without_one n X y j.set) small) (apart_with smaller away x less out)
      ∙ ap p (union-with_one_left smaller B x s ∙ ap (λ t. with_one t x) (without_one-union X B y s (apart_from_chosen X y passes m))))
    where
      j : IsJoined n p away B X
      j = IsJoined-gives laws away B X set.rising max passes

      s : IsRising B
      s = rising laws B max.passes

      smaller : List ℕ
      smaller = without_one X y

      less : intersection smaller away ≡ []
      less = apart_from smaller away (λ z h. apart_at X away j.disjoint z ((without_one-IsSubset X y).inside z h))

  pub contracted_row : (X : List ℕ) (x : ℕ) (inner row : Exchange) → is_contracted n away p X ≡ true → x < n → is_member x X ≡ false
      → is_member x away ≡ false → inner ≡ row_of p (union X B) x → row.addable ≡ inner.addable → row.with ≡ minus inner.with B
      → row ≡ row_of (is_contracted n away p) X x
  contracted_row X x inner row passes small o out told adds exchanges =
      row_outside (is_contracted n away p) X x row o
      (adds ∙ row-addable p (union X B) x inner outside told
      ∙ sym (contracted_apart (with_one X x) (IsSet-with_one n X x j.set small) (apart_with X away x j.disjoint out)
      ∙ ap p (union-with_one_left X B x s)))
      (exchanges ∙ ap (λ t. minus t B) (row-with p (union X B) x inner outside told)
      ∙ filter_first (exchanged p (union X B) x) (exchanged (is_contracted n away p) X x) X B j.set.rising s
      (λ y m. apart_from_chosen X y passes m) (λ y m. contracted_exchanged X x y passes small out m))
    where
      j : IsJoined n p away B X
      j = IsJoined-gives laws away B X set.rising max passes

      s : IsRising B
      s = rising laws B max.passes

      outside : is_member x (union X B) ≡ false
      outside = outside_joined X x o out

-- a set that is independent in the contraction, together with what is chosen of the contracted elements
module _ {n : ℕ} {p : List ℕ → Bool} (laws : IsMatroid n p) {away B : List ℕ} (c : IsContraction n p away B) (X : List ℕ) {J : List ℕ}
    (together : J ≡ union X B) (passes : is_contracted n away p X ≡ true) where
  pub joined_passes : p J ≡ true
  joined_passes = ap p together ∙ (IsJoined-gives laws away B X c.set.rising c.maximal passes).joined

  module _ (x : ℕ) (o : is_member x X ≡ false) (out : is_member x away ≡ false) where
    pub joined_outside : is_member x J ≡ false
    joined_outside = ap (is_member x) together ∙ outside_joined laws away B c.set c.maximal X x o out

    pub joined_row : x < n → (inner row : Exchange) → inner ≡ row_of p J x → row.addable ≡ inner.addable → row.with ≡ minus inner.with B
        → row ≡ row_of (is_contracted n away p) X x
    joined_row small inner row told =
        contracted_row laws away B c.set c.maximal X x inner row passes small o out (told ∙ ap (λ K. row_of p K x) together)

-- a set with a contracted element is dependent
pub contracted_fails : (n : ℕ) (p : List ℕ → Bool) (away J : List ℕ) (x : ℕ) → IsRising away → is_member x away ≡ true
    → is_contracted n away p (with_one J x) ≡ false
contracted_fails n p away J x r gone = false_from_ne_true _ (λ h.
    both_ways _ (apart_at (with_one J x) away (contraction-gives n p away (with_one J x) r h).disjoint x (with_one-holds J x)) gone)

-- a contracted element has no exchanges
pub contracted_row_outside : (n : ℕ) (p : List ℕ → Bool) (away X : List ℕ) (x : ℕ) (row : Exchange) → IsRising away
    → is_member x X ≡ false
    → is_member x away ≡ true → row.addable ≡ false → row.with ≡ [] → row ≡ row_of (is_contracted n away p) X x
contracted_row_outside n p away X x row r o gone adds exchanges =
    row_outside (is_contracted n away p) X x row o (adds ∙ sym (contracted_fails n p away X x r gone))
    (exchanges ∙ sym (filter_none (exchanged (is_contracted n away p) X x) X (λ y. contracted_fails n p away (without_one X y) x r gone)))
