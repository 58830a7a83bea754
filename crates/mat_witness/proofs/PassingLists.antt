-- A test that all items of a list pass, by places.
use Rattle.mat_witness.proofs.Common.{◌≡◌, ℕ, suc, ◌+◌, ◌<◌, Bool, true, false, List, [], ◌∷◌, length, get_or, inl, inr, refl, ap, ◌∙◌, subst, arith, cases_Bool, cases_lt, both_ways, and_from, list_all_at, is_member, all_below, length-all_below, get_or-all_below, place_of_member}
use Rattle.std.specs.List.{list_all}

pub fails_below : (n : ℕ) (test : ℕ → Bool) (i : ℕ) → i < n → test i ≡ false → list_all test (all_below n) ≡ false
fails_below n test i l h =
    let long = length-all_below n in
    list_all_at test (all_below n) i 0 (omega arith) (ap test (get_or-all_below n i 0 l) ∙ h)

pub all_below_pass : (n : ℕ) (test : ℕ → Bool) (i : ℕ) → list_all test (all_below n) ≡ true → i < n → test i ≡ true
all_below_pass n test i all l = elim (cases_Bool (test i)) [ inl h ↦ h | inr h ↦ absurd (both_ways _ (fails_below n test i l h) all) ]

pub member_passes : (test : ℕ → Bool) (xs : List ℕ) (x : ℕ) → list_all test xs ≡ true → is_member x xs ≡ true → test x ≡ true
member_passes test xs x all m = let w = place_of_member x xs m in elim (cases_Bool (test x)) [
  | inl h ↦ h
  | inr h ↦ absurd (both_ways _ (list_all_at test xs w.0 0 w.1 (ap test w.2 ∙ h)) all)
]

pub passes_each : (test : ℕ → Bool) (xs : List ℕ) → ((i : ℕ) → i < length xs → test (get_or xs i 0) ≡ true) → list_all test xs ≡ true
passes_each test [] h = refl
passes_each test (x ∷ xs) h = and_from (test x) (list_all test xs) (h 0 (omega arith)) (passes_each test xs (λ i l. h (suc i) (omega arith)))

pub passes_below : (n : ℕ) (test : ℕ → Bool) → ((i : ℕ) → i < n → test i ≡ true) → list_all test (all_below n) ≡ true
passes_below n test h = passes_each test (all_below n) (λ i l.
    let long = length-all_below n in
    let within : i < n = omega arith in
    ap test (get_or-all_below n i 0 within) ∙ h i within)

-- what holds below a number and of it
pub below_next : (P : ℕ → Type 0) (i : ℕ) → ((k : ℕ) → k < i → P k) → P i → (k : ℕ) → k < i + 1 → P k
below_next P i before now k l = elim (cases_lt k i) [ inl h ↦ before k h | inr h ↦ subst P (let e : i ≡ k = omega arith in e) now ]
