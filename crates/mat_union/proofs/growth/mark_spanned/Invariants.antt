use Rattle.mat_union.proofs.Common.{◌≡◌, ◌&&◌, not, take, ℕ, is_member}
use Rattle.mat_union.proofs.growth.mark_spanned.Given as goal

-- the first elements are taken out of the unspanned ones
abbrev pub invariant-loop-v : goal.invariant-loop-v
invariant-loop-v l = (v : ℕ) → is_member v l.unspanned ≡ (is_member v l.fn.unspanned && not (is_member v (take l.v-index l.elements)))
