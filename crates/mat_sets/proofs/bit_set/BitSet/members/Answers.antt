use Rattle.mat_sets.proofs.Common.{◌≡◌, ◌+◌, ◌*◌, subst, sym, arith, bits_of, AreMembersBelow}
use Rattle.mat_sets.proofs.BitMembers.{AreMembersBelow-none, AreMembersBelow-all}
use Rattle.mat_sets.proofs.Bits.{is_member-at, none_past, IsRising-bits_of}
use Rattle.mat_sets.proofs.bit_set.BitSet.members.Goals as goal

pub loop-at-init : goal.loop-at-init
loop-at-init c = AreMembersBelow-none (bits_of c.self.inside.words.items) c.in_ok-items.items.items c.in_ok-items.ensures.items

pub push_bits-requires : goal.push_bits-requires
push_bits-requires c = omega arith

pub loop-at-preserved : goal.loop-at-preserved
loop-at-preserved c =
    let words = c.self.inside.words.items in
    let at = c.loop-at.at in
    let next : at * 64 + 64 ≡ (at + 1) * 64 = omega arith in
    subst (λ k. AreMembersBelow (bits_of words) k c.push_bits.new.items.items) next
    (c.in_ok-push_bits.ensures (bits_of words) (λ i small. is_member-at words at c.index.result.now i (omega arith) c.index.ensures small)
    c.loop-at.invariant)

pub returns-clause-members : goal.returns-clause-members
returns-clause-members c =
    let words = c.self.inside.words.items in
    rw (sym c.self.view_is) (AreMembersBelow-all (bits_of words) c.loop-at.items.items (c.loop-at.at * 64) (IsRising-bits_of words)
    (none_past words (c.loop-at.at * 64) (omega arith)) c.loop-at.invariant)

pub returns-clause-rises : goal.returns-clause-rises
returns-clause-rises c = c.loop-at.invariant.rising
