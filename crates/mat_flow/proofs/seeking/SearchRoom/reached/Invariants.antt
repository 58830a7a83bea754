use Rattle.mat_flow.proofs.Common.{◌≡◌, ℕ, take, is_member, IsRising}
use Rattle.mat_flow.proofs.seeking.SearchRoom.reached.Given as goal

-- the first of what was found is put in
abbrev pub invariant-loop-v : goal.invariant-loop-v
invariant-loop-v l = record {
  members : (x : ℕ) → is_member x l.set ≡ is_member x (take l.v-index l.self.found.items);
  rises : IsRising l.set;
}
