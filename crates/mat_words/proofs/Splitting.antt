-- The parts of a list that is split at each element that passes a test: the first part ends at the first such element.
use Rattle.mat_words.proofs.Common.{◌≡◌, ◌≢◌, ℕ, zero, suc, ◌+◌, ◌-◌, ◌<◌, Bool, true, false, eqb, List, [], ◌∷◌, length, get_or, take, drop, refl, arith, add-one, ne_eqb, eq-eqb, take_rest, length-slice_split}
use Rattle.std.specs.List.{slice_split}

-- the first part ends at the first element that passes
pub split_at : (p : ℕ → Bool) (xs : List ℕ) (i : ℕ) → i < length xs → p (get_or xs i 0) ≡ true
    → ((k : ℕ) → k < i → p (get_or xs k 0) ≡ false)
    → slice_split p xs ≡ take i xs ∷ slice_split p (drop (i + 1) xs)
split_at p [] i lt here before = absurd (omega arith)
split_at p (x ∷ xs) zero lt here before = rw here refl
split_at p (x ∷ xs) (suc i) lt here before =
    let head : p x ≡ false = before 0 (omega arith) in
    let rest : slice_split p xs ≡ take i xs ∷ slice_split p (drop (i + 1) xs) =
    split_at p xs i (omega arith) here (λ k h. before (suc k) (omega arith)) in
    rw (head, rest, add-one, add-one) refl

-- where none passes, the list is the one part
pub split_none : (p : ℕ → Bool) (xs : List ℕ) → ((k : ℕ) → k < length xs → p (get_or xs k 0) ≡ false)
    → slice_split p xs ≡ xs ∷ []
split_none p [] before = refl
split_none p (x ∷ xs) before = rw (before 0 (omega arith), split_none p xs (λ k h. before (suc k) (omega arith))) refl

-- the same as the code makes the rest, for one byte
pub split_at_byte : (stop : ℕ) (xs : List ℕ) (i : ℕ) → i < length xs → get_or xs i 0 ≡ stop
    → ((k : ℕ) → k < i → get_or xs k 0 ≢ stop)
    → slice_split (λ b. eqb b stop) xs ≡ take i xs ∷ slice_split (λ b. eqb b stop) (take (length xs - (i + 1)) (drop (i + 1) xs))
split_at_byte stop xs i lt here before =
    rw take_rest (split_at (λ b. eqb b stop) xs i lt (eq-eqb (get_or xs i 0) stop here) (λ k h. ne_eqb (get_or xs k 0) stop (before k h)))

-- the same where no part follows
pub split_at_none : (stop : ℕ) (xs : List ℕ) → ((k : ℕ) → k < length xs → get_or xs k 0 ≢ stop)
    → slice_split (λ b. eqb b stop) xs ≡ xs ∷ []
split_at_none stop xs before = split_none (λ b. eqb b stop) xs (λ k h. ne_eqb (get_or xs k 0) stop (before k h))

-- there is at least one part
pub some_parts : (p : ℕ → Bool) (xs : List ℕ) → 0 < length (slice_split p xs)
some_parts p xs = rw length-slice_split (omega arith)
