-- Set lines that are read one after the other, as a loop reads them.
use Rattle.mat_desc.proofs.Common.{◌≡◌, ℕ, suc, ◌-◌, ◌+◌, ◌≤◌, ◌<◌, List, [], ◌∷◌, ◌++◌, Ok, Err, sym, ap₂, ◌∙◌, refl, arith, append-nil, LinesLeft, Fails, DescRefusal, Naming, nested_set_at, nested_sets_at}
use Rattle.mat_words.specs.declared.refusal.Refusal.TheVariants as refusals
use Rattle.mat_desc.proofs.Classes.{SetsRead, with_front, with_front-cons}

-- one more set was read
pub nested_sets_more : (naming : Naming) (n many i : ℕ) (p : LinesLeft) (sets : List (List ℕ)) (caps : List ℕ) (cap : ℕ) (set : List ℕ)
    (after : LinesLeft) (total : SetsRead)
    → i < many → nested_set_at naming n sets p ≡ Ok (cap, set, after) → with_front sets caps (nested_sets_at naming n (many - i) sets p) ≡ total
    → with_front (sets ++ set ∷ []) (caps ++ cap ∷ []) (nested_sets_at naming n (many - (i + 1)) (sets ++ set ∷ []) after) ≡ total
unfolding nested_sets_at
nested_sets_more naming n many i p sets caps cap set after total lt read so_far =
    let left : many - i ≡ suc (many - (i + 1)) = omega arith in
    let step : with_front sets caps (nested_sets_at naming n (many - i) sets p) ≡ with_front (sets ++ set ∷ []) (caps ++ cap ∷ [])
    (nested_sets_at naming n (many - (i + 1)) (sets ++ set ∷ []) after) =
    rw (left, read) (with_front-cons sets caps set cap (nested_sets_at naming n (many - (i + 1)) (sets ++ set ∷ []) after)) in
    sym step ∙ so_far

-- the next set fails
pub nested_sets_fail : (refusal : DescRefusal) (naming : Naming) (n many i : ℕ) (p : LinesLeft) (sets : List (List ℕ)) (caps : List ℕ)
    (total : SetsRead)
    → i < many → Fails refusal (nested_set_at naming n sets p) → with_front sets caps (nested_sets_at naming n (many - i) sets p) ≡ total
    → Fails refusal total
unfolding nested_sets_at
nested_sets_fail refusals.Memory naming n many i p sets caps total lt failed so_far = tt
nested_sets_fail (refusals.Fault kind line) naming n many i p sets caps total lt failed so_far =
    let left : many - i ≡ suc (many - (i + 1)) = omega arith in
    let step : with_front sets caps (nested_sets_at naming n (many - i) sets p) ≡ Err (kind, line) = rw (left, failed) refl in
    sym so_far ∙ step

-- all sets are read
pub nested_sets_done : (naming : Naming) (n many i : ℕ) (p : LinesLeft) (sets : List (List ℕ)) (caps : List ℕ) (total : SetsRead)
    → many ≤ i → with_front sets caps (nested_sets_at naming n (many - i) sets p) ≡ total → total ≡ Ok (sets, caps, p)
unfolding nested_sets_at
nested_sets_done naming n many i p sets caps total le so_far =
    let left : many - i ≡ 0 = omega arith in
    let step : with_front sets caps (nested_sets_at naming n (many - i) sets p) ≡ Ok (sets, caps, p) =
    rw left (ap₂ (λ (a : List (List ℕ)) (b : List ℕ). Ok (a, b, p)) (append-nil sets) (append-nil caps)) in
    sym so_far ∙ step
