use Rattle.mat_flow.proofs.Common.{◌≡◌, ◌||◌, ℕ, take, is_member}
use Rattle.mat_flow.proofs.seeking.put_back.Given as goal

-- the first of the vertices are put back
abbrev pub invariant-loop-v : goal.invariant-loop-v
invariant-loop-v l = (x : ℕ) → is_member x l.live ≡ (is_member x l.fn.live || is_member x (take l.v-index l.found))
