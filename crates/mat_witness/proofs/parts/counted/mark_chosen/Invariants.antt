use Rattle.mat_witness.proofs.Common.{◌≡◌, ℕ, ◌||◌, take, is_member, is_in_chosen}
use Rattle.mat_witness.proofs.parts.counted.mark_chosen.Given as goal

abbrev pub invariant-loop-i : goal.invariant-loop-i
invariant-loop-i l = (x : ℕ) → is_member x l.marks ≡ (is_member x l.fn.marks || is_in_chosen l.sets (take l.i-index l.chosen) x)
