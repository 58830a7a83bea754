-- Equations between tests: what holds of `and`, `or` and the equality and order of numbers for every value.
use Rattle.mat_sets.proofs.Common.{◌≡◌, ℕ, ◌+◌, Bool, true, false, not, ◌&&◌, ◌||◌, eqb, ltb, arith, refl, sym, ap, and_right, eq-eqb, eqb-true, false≢true}

pub or_none : (a : Bool) → (a || false) ≡ a
or_none true = refl
or_none false = refl

pub or_assoc : (a b c : Bool) → (a || (b || c)) ≡ ((a || b) || c)
or_assoc true b c = refl
or_assoc false b c = refl

pub or_commute : (a b : Bool) → (a || b) ≡ (b || a)
or_commute true true = refl
or_commute true false = refl
or_commute false true = refl
or_commute false false = refl

pub or_swap : (a b c : Bool) → (a || (b || c)) ≡ (b || (a || c))
or_swap true true c = refl
or_swap _ b c = refl

pub and_all : (a : Bool) → (a && true) ≡ a
and_all true = refl
and_all false = refl

-- in neither of two
pub and_neither : (a b c : Bool) → ((a && not b) && not c) ≡ (a && not (b || c))
and_neither true true c = refl
and_neither _ b c = refl

-- what is in the first and not left over is in the second
pub and_not_gives : (a b : Bool) → a ≡ true → (a && not b) ≡ false → b ≡ true
and_not_gives true true one none = refl
and_not_gives true false one none = sym none
and_not_gives false b one none = absurd (false≢true one)

pub and_not_none : (a b : Bool) → b ≡ true → (a && not b) ≡ false
and_not_none a b one = and_right a (not b) (ap not one)

-- tests that hold together are equal
pub same_truth : (a b : Bool) → (a ≡ true → b ≡ true) → (b ≡ true → a ≡ true) → a ≡ b
same_truth true b there back = sym (there refl)
same_truth false true there back = back refl
same_truth false false there back = refl

pub eqb-turned : (x y : ℕ) → eqb x y ≡ eqb y x
eqb-turned x y = same_truth (eqb x y) (eqb y x) (λ h. eq-eqb y x (sym (eqb-true x y h))) (λ h. eq-eqb x y (sym (eqb-true y x h)))

-- any other number is before a place where it is before the next
pub ltb-other : (i at : ℕ) → (i ≡ at → ⊥) → ltb i at ≡ ltb i (at + 1)
ltb-other i at d = grind arith
