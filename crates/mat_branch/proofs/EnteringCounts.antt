-- The arcs that enter a vertex set, counted one after the other, are those of all arcs that enter it.
use Rattle.mat_branch.proofs.Common.{◌≡◌, ℕ, List, length, enters, entering, those_below, all_below, IsCounted}

pub IsCounted-entering : (ends : ℕ → ℕ × ℕ) (cut : List ℕ) (n count : ℕ) → IsCounted (enters ends cut) n count
    → count ≡ length (entering ends (all_below n) cut)
unfolding entering those_below
IsCounted-entering ends cut n count c = c.many
