use Rattle.mat_sets.proofs.Common.{ℕ, List, AreMembersBelow, IsWordOf}
use Rattle.mat_sets.proofs.BitMembers.{AreBitsPushed}
use Rattle.mat_sets.proofs.bit_set.push_bits.Given as goal

abbrev pub invariant-loop-rest : goal.invariant-loop-rest
invariant-loop-rest l = (bits : List ℕ) → IsWordOf bits l.first l.word → AreMembersBelow bits l.first l.fn.items.items
    → AreBitsPushed bits l.first l.word l.rest l.items.items

abbrev pub decreases-loop-rest : goal.decreases-loop-rest
decreases-loop-rest l = l.rest
