-- Items that are read one after the other, as a loop reads them: the items so far, in front of what is still read, are what is read in all.
use Rattle.mat_words.proofs.Common.{◌≡◌, ℕ, suc, ◌-◌, ◌+◌, ◌≤◌, ◌<◌, List, [], ◌∷◌, ◌++◌, Result, Ok, Err, refl, sym, ap, ◌∙◌, append_assoc, arith, append-nil, Fails, ◌>>=◌, repeat_at, Refusal}
use Rattle.mat_words.specs.declared.refusal.Refusal.TheVariants as refusals

-- what was read before, in front of what is still read
abbrev pub with_front : {A S F : Type 0} → List A → Result (List A × S) F → Result (List A × S) F
with_front front reading = reading >>= λ x. Ok (front ++ x.0, x.1)

pub with_front-cons : {A S F : Type 0} (front : List A) (item : A) (reading : Result (List A × S) F)
    → with_front front (reading >>= λ x. Ok (item ∷ x.0, x.1)) ≡ with_front (front ++ item ∷ []) reading
with_front-cons {A} {S} front item (Ok x) = ap (λ (items : List A). Ok (items, x.1)) (simp append_assoc)
with_front-cons front item (Err fault) = refl

-- one more item was read
pub repeat_more : {A S F : Type 0} (reader : S → Result (A × S) F) (front : List A) (count i : ℕ) (s : S) (item : A) (after : S)
    (total : Result (List A × S) F)
    → i < count → reader s ≡ Ok (item, after) → with_front front (repeat_at reader (count - i) s) ≡ total
    → with_front (front ++ item ∷ []) (repeat_at reader (count - (i + 1)) after) ≡ total
unfolding repeat_at
repeat_more reader front count i s item after total lt read so_far =
    let left : count - i ≡ suc (count - (i + 1)) = omega arith in
    let step : with_front front (repeat_at reader (count - i) s) ≡ with_front (front ++ item ∷ []) (repeat_at reader (count - (i + 1)) after) =
    rw (left, read) (with_front-cons front item (repeat_at reader (count - (i + 1)) after)) in
    sym step ∙ so_far

-- the next item has a fault
pub repeat_fails : {A S F : Type 0} (reader : S → Result (A × S) F) (fault : F) (front : List A) (count i : ℕ) (s : S)
    (total : Result (List A × S) F)
    → i < count → reader s ≡ Err fault → with_front front (repeat_at reader (count - i) s) ≡ total → total ≡ Err fault
unfolding repeat_at
repeat_fails reader fault front count i s total lt failed so_far =
    let left : count - i ≡ suc (count - (i + 1)) = omega arith in
    let step : with_front front (repeat_at reader (count - i) s) ≡ Err fault = rw (left, failed) refl in
    sym so_far ∙ step

-- the next item has a fault, or memory ran out
pub repeat_refused : {A S K : Type 0} (reader : S → Result (A × S) (K × ℕ)) (refusal : Refusal K) (front : List A) (count i : ℕ) (s : S)
    (total : Result (List A × S) (K × ℕ))
    → i < count → Fails refusal (reader s) → with_front front (repeat_at reader (count - i) s) ≡ total → Fails refusal total
repeat_refused reader refusals.Memory front count i s total lt failed so_far = tt
repeat_refused reader (refusals.Fault kind line) front count i s total lt failed so_far =
    repeat_fails reader (kind, line) front count i s total lt failed so_far

-- all items are read
pub repeat_done : {A S F : Type 0} (reader : S → Result (A × S) F) (front : List A) (count i : ℕ) (s : S) (total : Result (List A × S) F)
    → count ≤ i → with_front front (repeat_at reader (count - i) s) ≡ total → total ≡ Ok (front, s)
unfolding repeat_at
repeat_done {A} {S} {F} reader front count i s total le so_far =
    let left : count - i ≡ 0 = omega arith in
    let step : with_front front (repeat_at reader (count - i) s) ≡ Ok (front, s) = rw left
    (ap (λ (items : List A). Ok (items, s)) (append-nil front)) in
    sym so_far ∙ step
