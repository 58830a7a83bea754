-- Rungs that are read one after the other, as a loop reads them: those so far, in front of those that are still read, are
-- those that are read in all.
use Rattle.mat_cert.proofs.Common.{◌≡◌, ℕ, suc, ◌-◌, ◌+◌, ◌≤◌, ◌<◌, List, [], ◌∷◌, ◌++◌, Result, Ok, Err, refl, sym, ap, ◌∙◌, arith, append-nil, LinesLeft, with_front, with_front-cons, Fails, CertRefusal, Fault, rungs_at}
use Rattle.mat_words.specs.declared.refusal.Refusal.TheVariants as refusals

-- rungs i and on are still read, behind those in front
abbrev pub rungs_left : {R : Type 0} → (ℕ → LinesLeft → Result (R × LinesLeft) Fault) → List R → ℕ → ℕ → LinesLeft
    → Result (List R × LinesLeft) Fault
rungs_left reader front count i s = with_front front (rungs_at reader i (count - i) s)

-- one more rung was read
pub rungs_more : {R : Type 0} (reader : ℕ → LinesLeft → Result (R × LinesLeft) Fault) (front : List R) (count i : ℕ) (s : LinesLeft)
    (rung : R) (after : LinesLeft)
    (total : Result (List R × LinesLeft) Fault) → i < count → reader i s ≡ Ok (rung, after) → rungs_left reader front count i s ≡ total
    → rungs_left reader (front ++ rung ∷ []) count (i + 1) after ≡ total
unfolding rungs_at
rungs_more reader front count i s rung after total lt read so_far =
    let left : count - i ≡ suc (count - (i + 1)) = omega arith in
    let next : suc i ≡ i + 1 = omega arith in
    let step : rungs_left reader front count i s ≡ rungs_left reader (front ++ rung ∷ []) count (i + 1) after =
    rw (left, read, next) (with_front-cons front rung (rungs_at reader (i + 1) (count - (i + 1)) after)) in
    sym step ∙ so_far

-- the next rung fails
pub rungs_fail : {R : Type 0} (reader : ℕ → LinesLeft → Result (R × LinesLeft) Fault) (refusal : CertRefusal) (front : List R)
    (count i : ℕ) (s : LinesLeft)
    (total : Result (List R × LinesLeft) Fault) → i < count → Fails refusal (reader i s) → rungs_left reader front count i s ≡ total
    → Fails refusal total
unfolding rungs_at
rungs_fail reader refusals.Memory front count i s total lt failed so_far = tt
rungs_fail reader (refusals.Fault kind line) front count i s total lt failed so_far =
    let left : count - i ≡ suc (count - (i + 1)) = omega arith in
    let step : rungs_left reader front count i s ≡ Err (kind, line) = rw (left, failed) refl in
    sym so_far ∙ step

-- all rungs are read
pub rungs_done : {R : Type 0} (reader : ℕ → LinesLeft → Result (R × LinesLeft) Fault) (front : List R) (count i : ℕ) (s : LinesLeft)
    (total : Result (List R × LinesLeft) Fault) → count ≤ i → rungs_left reader front count i s ≡ total → total ≡ Ok (front, s)
unfolding rungs_at
rungs_done {R} reader front count i s total le so_far =
    let left : count - i ≡ 0 = omega arith in
    let step : rungs_left reader front count i s ≡ Ok (front, s) = rw left (ap (λ (items : List R). Ok (items, s)) (append-nil front)) in
    sym so_far ∙ step
