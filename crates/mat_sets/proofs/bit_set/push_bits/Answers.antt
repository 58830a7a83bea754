use Rattle.mat_sets.proofs.Common.{sym, subst, arith, rules}
use Rattle.mat_sets.proofs.BitMembers.{cleared, AreBitsPushed, AreBitsPushed-none, AreBitsPushed-more, AreBitsPushed-all, cleared-less}
use Rattle.mat_sets.proofs.bit_set.push_bits.Goals as goal

pub loop-rest-init : goal.loop-rest-init
loop-rest-init c = λ bits w s. AreBitsPushed-none bits c.args.first c.args.word c.args.items.now.items s

pub loop-rest-smaller : goal.loop-rest-smaller
loop-rest-smaller c = cleared-less c.loop-rest.rest (omega arith) (search rules)

pub loop-rest-preserved : goal.loop-rest-preserved
loop-rest-preserved c = λ bits w s.
    subst (AreBitsPushed bits c.args.first c.args.word (cleared c.loop-rest.rest)) (sym c.in_ok-push.ensures.items)
    (AreBitsPushed-more c.loop-rest.rest (omega arith) (search rules) bits c.args.first c.args.word c.loop-rest.items.items w
    (c.loop-rest.invariant bits w s))

pub returns : goal.returns
returns c = λ bits w s.
    AreBitsPushed-all bits c.args.first c.args.word c.loop-rest.rest c.loop-rest.items.items c.loop-rest-test.false w (c.loop-rest.invariant bits w s)
