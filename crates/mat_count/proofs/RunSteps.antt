-- One element of a greedy run: it is left out where it does not fit, put in where it is new and fits, and putting it in again changes nothing.
use Rattle.mat_count.proofs.Common.{◌≡◌, ℕ, ◌+◌, ◌<◌, Bool, true, false, List, length, get_or, refl, sym, ◌∙◌, inl, inr, cases_Bool, both_ways, is_member, IsRising, with_one, with_one-member, IsRunning, IsRunning-next}

module _ {p : List ℕ → Bool} {order set : List ℕ} {i : ℕ} (r : IsRunning p order i set) (x : ℕ) (after : List ℕ)
    (inside : i < length order) (at : x ≡ get_or order i 0) where
  -- an element that stands in the set already, or that does not fit
  pub run-passed : (is_member x set ≡ false → p (with_one set x) ≡ false) → after ≡ set → IsRunning p order (i + 1) after
  run-passed refused is = IsRunning-next p order set i x inside at r false after (sym (elim (cases_Bool (is_member x set)) [
    | inl member ↦ rw member refl
    | inr new ↦ rw (new, refused new) refl
  ])) is

  -- an element that stands in the set already is put in again
  pub run-repeated : IsRising set → is_member x set ≡ true → after ≡ with_one set x → IsRunning p order (i + 1) after
  run-repeated rises member is = run-passed (λ new. absurd (both_ways (is_member x set) new member)) (is ∙ with_one-member set x rises member)

  -- an element that is new and fits
  pub run-entered : is_member x set ≡ false → p (with_one set x) ≡ true → after ≡ with_one set x → IsRunning p order (i + 1) after
  run-entered new fits is = IsRunning-next p order set i x inside at r true after (rw (new, fits) refl) is
