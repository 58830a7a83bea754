-- Sums over numbers: those of a list and those below a bound, where each that is not below the count weighs 1.
use Rattle.mat_ticket.proofs.Common.{◌≡◌, ℕ, zero, suc, ◌+◌, ◌<◌, ◌≤◌, List, [], ◌∷◌, inl, inr, refl, arith, cases_lt, nat_tests, sum_by-cons, AllBelow, sum_below, beyond}
use Rattle.std.specs.List.{sum_by}

beyond-below : (count x : ℕ) → x < count → beyond count x ≡ 0
beyond-below count x l = grind (arith, nat_tests)

pub beyond-past : (count x : ℕ) → count ≤ x → beyond count x ≡ 1
beyond-past count x l = grind (arith, nat_tests)

pub beyond-le : (count x : ℕ) → beyond count x ≤ 1
beyond-le count x = grind (arith, nat_tests)

-- below the count there are none
pub sum_below-none : (count n : ℕ) → n ≤ count → sum_below (beyond count) n ≡ 0
sum_below-none count zero l = refl
sum_below-none count (suc n) l = let e = sum_below-none count n (omega arith) in let b = beyond-below count n (omega arith) in omega arith

-- and from it on each weighs 1
pub sum_below-some : (count n : ℕ) → n ≤ count + sum_below (beyond count) n
sum_below-some count zero = omega arith
sum_below-some count (suc n) = let e = sum_below-some count n in
    elim (cases_lt n count) [
      | inl l ↦ omega arith
      | inr g ↦ (let b = beyond-past count n g in omega arith)
    ]

-- where all are below the count, none weighs 1
pub sum_by-beyond_none : (count : ℕ) (xs : List ℕ) → AllBelow count xs → sum_by (beyond count) xs ≡ 0
sum_by-beyond_none count [] h = refl
sum_by-beyond_none count (x ∷ xs) h =
    let b = beyond-below count x h.0 in
    let r = sum_by-beyond_none count xs h.1 in omega (arith, sum_by-cons (beyond count) x xs)

-- and the other way round
pub AllBelow-beyond_none : (count : ℕ) (xs : List ℕ) → sum_by (beyond count) xs ≡ 0 → AllBelow count xs
AllBelow-beyond_none count [] e = tt
AllBelow-beyond_none count (x ∷ xs) e =
    let sum = sum_by-cons (beyond count) x xs in
    elim (cases_lt x count) [
      | inl l ↦ (l, AllBelow-beyond_none count xs (omega arith))
      | inr g ↦ (let b = beyond-past count x g in absurd (omega arith))
    ]
