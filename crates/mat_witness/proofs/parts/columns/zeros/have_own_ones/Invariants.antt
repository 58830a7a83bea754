-- The numbers so far have ones of their own.
use Rattle.mat_witness.proofs.Common.{◌≡◌, ℕ, ◌<◌, ◌^◌, true, has_own_one}
use Rattle.std.specs.List.{All}
use Rattle.mat_witness.proofs.parts.columns.zeros.have_own_ones.Given as goal

abbrev pub invariant-loop-i : goal.invariant-loop-i
invariant-loop-i l = (dim : ℕ) → All (λ zero. zero < 2 ^ dim) l.numbers → (i : ℕ) → i < l.i → has_own_one dim l.numbers i ≡ true
