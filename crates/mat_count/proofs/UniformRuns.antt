-- Greedy runs of uniform matroids: each new element enters while the set has fewer elements than the cap.
use Rattle.mat_count.proofs.Common.{◌≡◌, ℕ, ◌+◌, ◌<◌, ◌≤◌, leb, List, length, get_or, ◌∙◌, inl, inr, cases_Bool, and_parts, lt-ltb, le-ltb, is_member, IsSet, with_one, is_set, IsSet-from_test, IsRunning, is_uniform}
use Rattle.mat_count.proofs.RunSteps.{run-passed, run-repeated, run-entered}
use Rattle.mat_count.proofs.UniformRows.{uniform-with_one}

module _ (n cap : ℕ) {order set : List ℕ} {i : ℕ} (r : IsRunning (is_uniform n cap) order i set) (x : ℕ) (after : List ℕ)
    (inside : i < length order) (at : x ≡ get_or order i 0) (small : x < n) where
  is : IsSet n set
  is = IsSet-from_test n set (and_parts (is_set n set) (leb (length set) cap) r.passes).0

  -- where there is room
  pub uniform_run-entered : length set < cap → after ≡ with_one set x → IsRunning (is_uniform n cap) order (i + 1) after
  uniform_run-entered room put = elim (cases_Bool (is_member x set)) [
    | inl member ↦ run-repeated r x after inside at is.rising member put
    | inr new ↦ run-entered r x after inside at new (uniform-with_one n cap set x is small new ∙ lt-ltb (length set) cap room) put
  ]

  -- where there is none
  pub uniform_run-passed : cap ≤ length set → after ≡ set → IsRunning (is_uniform n cap) order (i + 1) after
  uniform_run-passed full kept =
      run-passed r x after inside at (λ new. uniform-with_one n cap set x is small new ∙ le-ltb (length set) cap full) kept
