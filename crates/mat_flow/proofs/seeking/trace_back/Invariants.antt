use Rattle.mat_flow.proofs.Common.{◌≡◌, ◌-◌, ℕ, Bool, List, true, length, is_member, IsChain}
use Rattle.mat_flow.proofs.FirstGoals.{IsBack}
use Rattle.mat_flow.proofs.seeking.trace_back.Given as goal

-- the walk so far leads to the last vertex
abbrev pub invariant-loop-at : goal.invariant-loop-at
invariant-loop-at l = (n : ℕ) (arc : ℕ → ℕ → Bool) (start : ℕ → Bool) (live rest found : List ℕ) → is_member l.last found ≡ true
    → (c : IsChain n arc start live rest found l.before) → IsBack n arc start found c.depth l.last l.at l.walk.items

abbrev pub decreases-loop-at : goal.decreases-loop-at
decreases-loop-at l = length l.before - length l.walk.items
