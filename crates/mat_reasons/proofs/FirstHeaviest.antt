-- The first of the heaviest, by one number more.
use Rattle.mat_reasons.proofs.Common.{◌≡◌, ℕ, ◌+◌, ◌<◌, true, false, inl, inr, refl, subst, arith, ints, ◌≼◌, ◌≺◌, is_below, Weight, IsFirstHeaviest}
use Rattle.std.proofs.lemmas.Bool.{cases_lt}
use Rattle.mat_sets.proofs.WeightOrder.{at_most_same, below_gives, not_below_gives}

-- what holds of each number below k and of k
up_to : {P : ℕ → Type 0} (k : ℕ) → ((j : ℕ) → j < k → P j) → P k → (j : ℕ) → j < k + 1 → P j
up_to {P} k before here j l = elim (cases_lt j k) [ inl below ↦ before j below | inr above ↦ (let same : k ≡ j = omega arith in subst P same here) ]

-- the next number is the first of the heaviest where it is heavier
pub first_risen : (w : ℕ → Weight) (k i : ℕ) → IsFirstHeaviest w k i → is_below (w i) (w k) ≡ true → IsFirstHeaviest w (k + 1) k
first_risen w k i so more =
    let above : (j : ℕ) → j < k → w j ≺ w k = λ j l. over (w j) (w i) (w k) (so.heaviest j l) (below_gives (w i) (w k) more) in
    record { heaviest = up_to k (λ j l. below (w j) (w k) (above j l)) (at_most_same (w k) (w k) refl); first = above }
  where
    over : (a b c : Weight) → a ≼ b → b ≺ c → a ≺ c
    over a b c h k = omega (arith, ints)

    below : (a b : Weight) → a ≺ b → a ≼ b
    below a b h = omega (arith, ints)

-- and the one before is where it is not
pub first_stayed : (w : ℕ → Weight) (k i : ℕ) → IsFirstHeaviest w k i → is_below (w i) (w k) ≡ false → IsFirstHeaviest w (k + 1) i
first_stayed w k i so less = record { heaviest = up_to k so.heaviest (not_below_gives (w i) (w k) less); first = so.first }
