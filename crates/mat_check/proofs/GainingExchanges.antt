-- Which exchanges gain is told by rows and by the least weight; and none gains exactly where no independent set of as many
-- elements is heavier.
use Rattle.mat_check.proofs.Common.{◌≡◌, ℕ, ◌+◌, ◌<◌, ◌≤◌, Bool, true, false, not, cond, ◌&&◌, ◌||◌, if◌then◌else◌, eqb, List, [], ◌∷◌, length, get_or, take, filter, Option, Some, None, inl, inr, refl, sym, ap, ◌∙◌, subst, arith, take_all, and_from, and_parts, and_right, both_ways, cases_Bool}
use Rattle.mat_check.proofs.Common.{cond-true, cond-false, eq-eqb, false≢true, false_from_ne_true, not-true, or_cases, or_left, or_right, true_from_ne_false, some_below, is_member, with_one, without_one, AllBelow, ◌≺◌, ◌≼◌, is_below, Weight, below_member, AllBelow-filter, is_member-head}
use Rattle.mat_check.proofs.Common.{is_member-with_one, place_of_member, some_below_none, below_from, below_gives, not_below_from, not_below_gives, IsMatroid, is_beaten, IsHeaviest-not_beaten, not_beaten-IsHeaviest, exchange_gains, has_lighter, exceeds_least, is_gain, least_with}
use Rattle.mat_check.proofs.Common.{IsLeastWeightOrNone}
use Rattle.std.specs.List.{list_any}
use Rattle.std.proofs.lemmas.Int.{ints}
use Rattle.std.proofs.lemmas.List.Folds.{list_any_at, list_any_more}
use Rattle.mat_sets.proofs.Truths.{or_none}
use Rattle.mat_laws.specs.declared.exchange.Exchange.{Exchange}
use Rattle.mat_laws.specs.Exchanges.{row_of}
use Rattle.mat_laws.proofs.LocallyHeaviest.{exchange_gains_nothing, heaviest_from_exchanges}
use Rattle.mat_laws.proofs.Rows.{exchanged, row-with}

-- ---- the least weight of some elements

first_below : (a b other : Weight) → is_below b a ≡ true → is_below b other ≡ (is_below a other || is_below b other)
first_below a b other less = elim (cases_Bool (is_below a other)) [
  | inl h ↦
      let low : b ≺ a = below_gives b a less in
      let high : a ≺ other = below_gives a other h in
      below_from b other (omega (arith, ints)) ∙ sym (or_left (is_below a other) (is_below b other) h)
  | inr h ↦ sym (ap (λ c. c || is_below b other) h)
]

second_below : (a b other : Weight) → is_below b a ≡ false → is_below a other ≡ (is_below a other || is_below b other)
second_below a b other most = elim (cases_Bool (is_below b other)) [
  | inl h ↦
      let low : a ≼ b = not_below_gives b a most in
      let high : b ≺ other = below_gives b other h in
      let first : is_below a other ≡ true = below_from a other (omega (arith, ints)) in
      first ∙ sym (or_left (is_below a other) (is_below b other) first)
  | inr h ↦ sym (ap (λ c. is_below a other || c) h ∙ or_none (is_below a other))
]

-- the lesser of two weights is below what either is below
below_lesser : (a b other : Weight) → is_below (if is_below b a then b else a) other ≡ (is_below a other || is_below b other)
below_lesser a b other = elim (cases_Bool (is_below b a)) [
  | inl less ↦ ap (λ (c : Weight). is_below c other) (cond-true (is_below b a) b a less) ∙ first_below a b other less
  | inr most ↦ ap (λ (c : Weight). is_below c other) (cond-false (is_below b a) b a most) ∙ second_below a b other most
]

above_lesser : (least : Option Weight) (a other : Weight) → exceeds_least other (least_with least a) ≡ (exceeds_least other least || is_below a other)
above_lesser None a other = refl
above_lesser (Some t) a other = below_lesser t a other

module _ (w : ℕ → Weight) (xs : List ℕ) where
  pub least_of_none : IsLeastWeightOrNone w (take 0 xs) None
  least_of_none = record { tells = λ other. refl }

  pub least_of_more : (i : ℕ) (least : Option Weight) → i < length xs → IsLeastWeightOrNone w (take i xs) least
      → IsLeastWeightOrNone w (take (i + 1) xs) (least_with least (w (get_or xs i 0)))
  least_of_more i least l so_far = record {
    tells = λ other. above_lesser least (w (get_or xs i 0)) other
        ∙ ap (λ b. b || is_below (w (get_or xs i 0)) other) (so_far.tells other)
        ∙ sym (list_any_more (λ y. is_below (w y) other) xs i 0 l);
  }

  pub least_of_all : (i : ℕ) (least : Option Weight) → length xs ≤ i → IsLeastWeightOrNone w (take i xs) least → IsLeastWeightOrNone w xs least
  least_of_all i least l so_far = subst (λ ys. IsLeastWeightOrNone w ys least) (take_all i xs l) so_far

-- ---- members that pass a test

some_member : (test : ℕ → Bool) (xs : List ℕ) → list_any test xs ≡ true → (y : ℕ) × (is_member y xs ≡ true) × (test y ≡ true)
some_member test [] h = absurd (false≢true h)
some_member test (x ∷ xs) h = elim (or_cases (test x) (list_any test xs) h) [
  | inl here ↦ (x, is_member-head x xs, here)
  | inr later ↦ (let w = some_member test xs later in (w.0, or_right (eqb w.0 x) (is_member w.0 xs) w.1, w.2))
]

member_passes : (test : ℕ → Bool) (xs : List ℕ) (y : ℕ) → is_member y xs ≡ true → test y ≡ true → list_any test xs ≡ true
member_passes test xs y m h = let place = place_of_member y xs m in list_any_at test xs place.0 0 place.1 (ap test place.2 ∙ h)

any_step : (test : ℕ → Bool) (b rest : Bool) (x : ℕ) (us : List ℕ) → list_any test us ≡ rest
    → list_any test (cond b (x ∷ us) us) ≡ ((b && test x) || rest)
any_step test true rest x us e = ap (λ c. test x || c) e
any_step test false rest x us e = e

-- a test of the items that a filter keeps
any_kept : (keeps test : ℕ → Bool) (xs : List ℕ) → list_any test (filter keeps xs) ≡ list_any (λ y. keeps y && test y) xs
any_kept keeps test [] = refl
any_kept keeps test (x ∷ xs) = any_step test (keeps x) (list_any (λ y. keeps y && test y) xs) x (filter keeps xs) (any_kept keeps test xs)

-- ---- one element

module _ (p : List ℕ → Bool) (w : ℕ → Weight) (I : List ℕ) (x : ℕ) where
  -- whether x gains where it is outside I
  gains_outside : is_member x I ≡ false → exchange_gains p w I x ≡ list_any (is_gain p w I x) I
  gains_outside out = ap (λ b. not b && list_any (is_gain p w I x) I) out

  pub member_gains_nothing : is_member x I ≡ true → false ≡ exchange_gains p w I x
  member_gains_nothing m = sym (ap (λ b. not b && list_any (is_gain p w I x) I) m)

  -- what weighs no more than any member gains nothing
  pub light_gains_nothing : has_lighter w I (w x) ≡ false → false ≡ exchange_gains p w I x
  light_gains_nothing light = sym (and_right (not (is_member x I)) (list_any (is_gain p w I x) I) (false_from_ne_true _ (λ some.
      let one = some_member (is_gain p w I x) I some in
      let both = and_parts (p (with_one (without_one I one.0) x)) (is_below (w one.0) (w x)) one.2 in
      both_ways (has_lighter w I (w x)) light (member_passes (λ y. is_below (w y) (w x)) I one.0 one.1 both.1))))

module _ (p : List ℕ → Bool) (I : List ℕ) (x : ℕ) (out : is_member x I ≡ false) (e : Exchange) (is : e ≡ row_of p I x) where
  -- x can take the place of the members that its row has
  taken_places : filter (exchanged p I x) I ≡ e.with
  taken_places = sym (row-with p I x e out is)

  pub row_below : (n : ℕ) → AllBelow n I → AllBelow n e.with
  row_below n below = subst (AllBelow n) taken_places (AllBelow-filter n (exchanged p I x) I below)

  pub row_gains : (w : ℕ → Weight) → has_lighter w e.with (w x) ≡ exchange_gains p w I x
  row_gains w =
      ap (λ ys. has_lighter w ys (w x)) (sym taken_places) ∙ any_kept (exchanged p I x) (λ y. is_below (w y) (w x)) I
      ∙ sym (gains_outside p w I x out)

module _ {n : ℕ} {p : List ℕ → Bool} (laws : IsMatroid n p) (w : ℕ → Weight) (I : List ℕ) (ok : p I ≡ true) where
  -- ---- all elements

  -- where an exchange gains, some independent set of as many elements is heavier
  pub gain_beats : (x : ℕ) → exchange_gains p w I x ≡ true → true ≡ is_beaten n p w I
  gain_beats x gains = sym (true_from_ne_false (is_beaten n p w I) (λ fair.
      let parts = and_parts (not (is_member x I)) (list_any (is_gain p w I x) I) gains in
      let one = some_member (is_gain p w I x) I parts.1 in
      let both = and_parts (p (with_one (without_one I one.0) x)) (is_below (w one.0) (w x)) one.2 in
      let less : w x ≼ w one.0 =
      exchange_gains_nothing laws w I x one.0 (not_beaten-IsHeaviest laws w I ok fair) one.1 (not-true (is_member x I) parts.0) both.0 in
      both_ways (is_below (w one.0) (w x)) (not_below_from (w one.0) (w x) less) both.1))

  no_gain : some_below n (exchange_gains p w I) ≡ false → (x y : ℕ) → is_member y I ≡ true → is_member x I ≡ false
      → p (with_one (without_one I y) x) ≡ true → w x ≼ w y
  no_gain none x y m out taken =
      let here : is_member x (with_one (without_one I y) x) ≡ true =
      is_member-with_one x x (without_one I y) ∙ or_left (eqb x x) (is_member x (without_one I y)) (eq-eqb x x refl) in
      let small : x < n = below_member (laws.sets (with_one (without_one I y) x) taken) here in
      let nothing : list_any (is_gain p w I x) I ≡ false =
      sym (gains_outside p w I x out) ∙ some_below_none n x (exchange_gains p w I) none small in
      not_below_gives (w y) (w x) (false_from_ne_true (is_below (w y) (w x)) (λ less.
      both_ways _ nothing (member_passes (is_gain p w I x) I y m (and_from (p (with_one (without_one I y) x)) (is_below (w y) (w x)) taken less))))

  -- where none does, none is
  pub no_gain_is_fair : some_below n (exchange_gains p w I) ≡ false → false ≡ is_beaten n p w I
  no_gain_is_fair none = sym (IsHeaviest-not_beaten n p w I (heaviest_from_exchanges laws w I ok (no_gain none)))
