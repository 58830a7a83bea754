-- Class lines that are read one after the other, as a loop reads them.
use Rattle.mat_desc.proofs.Common.{◌≡◌, ℕ, suc, ◌-◌, ◌+◌, ◌≤◌, ◌<◌, List, [], ◌∷◌, ◌++◌, Result, Ok, Err, refl, sym, ap₂, ◌∙◌, append_assoc, arith, append-nil, LinesLeft, ◌>>=◌, Fails, DescRefusal, Fault, Naming, class_at, classes_at}
use Rattle.mat_words.specs.declared.refusal.Refusal.TheVariants as refusals

-- sets and their caps, and the lines behind them
abbrev pub SetsRead : Type 0
SetsRead = Result (List (List ℕ) × List ℕ × LinesLeft) Fault

-- what was read before, in front of what is still read
abbrev pub with_front : List (List ℕ) → List ℕ → SetsRead → SetsRead
with_front sets caps reading = reading >>= λ x. Ok (sets ++ x.0, caps ++ x.1, x.2)

pub with_front-cons : (sets : List (List ℕ)) (caps : List ℕ) (set : List ℕ) (cap : ℕ) (reading : SetsRead)
    → with_front sets caps (reading >>= λ x. Ok (set ∷ x.0, cap ∷ x.1, x.2)) ≡ with_front (sets ++ set ∷ []) (caps ++ cap ∷ []) reading
with_front-cons sets caps set cap (Ok x) = simp append_assoc
with_front-cons sets caps set cap (Err fault) = refl

-- one more class was read
pub classes_more : (naming : Naming) (n many i : ℕ) (taken : List ℕ) (p : LinesLeft) (classes : List (List ℕ)) (caps : List ℕ) (cap : ℕ)
    (class taken_more : List ℕ) (after : LinesLeft) (total : SetsRead)
    → i < many → class_at naming n taken p ≡ Ok (cap, class, taken_more, after)
    → with_front classes caps (classes_at naming n (many - i) taken p) ≡ total
    → with_front (classes ++ class ∷ []) (caps ++ cap ∷ []) (classes_at naming n (many - (i + 1)) taken_more after) ≡ total
unfolding classes_at
classes_more naming n many i taken p classes caps cap class taken_more after total lt read so_far =
    let left : many - i ≡ suc (many - (i + 1)) = omega arith in
    let step : with_front classes caps (classes_at naming n (many - i) taken p) ≡ with_front (classes ++ class ∷ []) (caps ++ cap ∷ [])
    (classes_at naming n (many - (i + 1)) taken_more after) =
    rw (left, read) (with_front-cons classes caps class cap (classes_at naming n (many - (i + 1)) taken_more after)) in
    sym step ∙ so_far

-- the next class fails
pub classes_fail : (refusal : DescRefusal) (naming : Naming) (n many i : ℕ) (taken : List ℕ) (p : LinesLeft) (classes : List (List ℕ))
    (caps : List ℕ) (total : SetsRead)
    → i < many → Fails refusal (class_at naming n taken p) → with_front classes caps (classes_at naming n (many - i) taken p) ≡ total
    → Fails refusal total
unfolding classes_at
classes_fail refusals.Memory naming n many i taken p classes caps total lt failed so_far = tt
classes_fail (refusals.Fault kind line) naming n many i taken p classes caps total lt failed so_far =
    let left : many - i ≡ suc (many - (i + 1)) = omega arith in
    let step : with_front classes caps (classes_at naming n (many - i) taken p) ≡ Err (kind, line) = rw (left, failed) refl in
    sym so_far ∙ step

-- all classes are read
pub classes_done : (naming : Naming) (n many i : ℕ) (taken : List ℕ) (p : LinesLeft) (classes : List (List ℕ)) (caps : List ℕ)
    (total : SetsRead)
    → many ≤ i → with_front classes caps (classes_at naming n (many - i) taken p) ≡ total → total ≡ Ok (classes, caps, p)
unfolding classes_at
classes_done naming n many i taken p classes caps total le so_far =
    let left : many - i ≡ 0 = omega arith in
    let step : with_front classes caps (classes_at naming n (many - i) taken p) ≡ Ok (classes, caps, p) =
    rw left (ap₂ (λ (a : List (List ℕ)) (b : List ℕ). Ok (a, b, p)) (append-nil classes) (append-nil caps)) in
    sym so_far ∙ step
