use Rattle.mat_witness.proofs.Common.{◌≡◌, ℕ, ◌||◌, take, is_member}
use Rattle.mat_witness.proofs.parts.counted.mark.Given as goal

abbrev pub invariant-loop-x : goal.invariant-loop-x
invariant-loop-x l = (x : ℕ) → is_member x l.marks ≡ (is_member x l.fn.marks || is_member x (take l.x-index l.set))
