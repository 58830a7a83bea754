-- Different numbers that are read one after the other, as a loop reads them.
use Rattle.mat_desc.proofs.Common.{◌≡◌, ℕ, suc, ◌-◌, ◌+◌, ◌≤◌, ◌<◌, true, false, List, [], ◌∷◌, ◌++◌, Ok, Err, Result, refl, sym, ap, ◌∙◌, arith, append-nil, is_member, with_one, Repeated, WordsLeft, Fails, Fault, kind_of, refusal_of, distinct_at, with_front, with_front-cons}
use Rattle.mat_words.specs.Reading as reading
use Rattle.mat_words.specs.declared.refusal.{ReadingFault.{ReadingFault}, Refusal.{Refusal}}
use Rattle.mat_words.specs.declared.refusal.Refusal.TheVariants as readings

module _ (bound many i : ℕ) (taken front : List ℕ) (s : WordsLeft) (total : Result (List ℕ × WordsLeft) Fault)
    (so_far : with_front front (distinct_at bound (many - i) taken s) ≡ total) where
  -- one more number was read
  pub distinct_more : (x : ℕ) (after : WordsLeft) → i < many → reading.below_at bound s ≡ Ok (x, after) → is_member x taken ≡ false
      → with_front (front ++ x ∷ []) (distinct_at bound (many - (i + 1)) (with_one taken x) after) ≡ total
  unfolding distinct_at
  distinct_more x after lt read free =
      let left : many - i ≡ suc (many - (i + 1)) = omega arith in
      let later = distinct_at bound (many - (i + 1)) (with_one taken x) after in
      let step : with_front front (distinct_at bound (many - i) taken s) ≡ with_front (front ++ x ∷ []) later =
      rw (left, read, free) (with_front-cons front x later) in
      sym step ∙ so_far

  -- the next number was read before
  pub distinct_repeat : (x : ℕ) (after : WordsLeft) → i < many → reading.below_at bound s ≡ Ok (x, after) → is_member x taken ≡ true
      → total ≡ Err (Repeated, s.line)
  unfolding distinct_at
  distinct_repeat x after lt read old =
      let left : many - i ≡ suc (many - (i + 1)) = omega arith in
      let step : with_front front (distinct_at bound (many - i) taken s) ≡ Err (Repeated, s.line) = rw (left, read, old) refl in
      sym so_far ∙ step

  -- the next word is no number below the bound
  pub distinct_fails : (refusal : Refusal ReadingFault) → i < many → reading.Fails refusal (reading.below_at bound s)
      → Fails (refusal_of refusal) total
  unfolding distinct_at
  distinct_fails readings.Memory lt failed = tt
  distinct_fails (readings.Fault kind line) lt failed =
      let left : many - i ≡ suc (many - (i + 1)) = omega arith in
      let step : with_front front (distinct_at bound (many - i) taken s) ≡ Err (kind_of kind, line) = rw (left, failed) refl in
      sym so_far ∙ step

  -- all numbers are read
  pub distinct_done : many ≤ i → total ≡ Ok (front, s)
  unfolding distinct_at
  distinct_done le =
      let left : many - i ≡ 0 = omega arith in
      let step : with_front front (distinct_at bound (many - i) taken s) ≡ Ok (front, s) =
      rw left (ap (λ (items : List ℕ). Ok (items, s)) (append-nil front)) in
      sym so_far ∙ step
