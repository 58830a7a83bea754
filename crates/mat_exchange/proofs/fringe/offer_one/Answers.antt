use Rattle.mat_exchange.proofs.Common.{◌∙◌, sym, refl, arith, length-set}
use Rattle.std.proofs.lemmas.Grind.{common_steps}
use Rattle.mat_exchange.proofs.Fringes.{offered_one_new}
use Rattle.mat_exchange.proofs.FringeTops.{tops_offered}
use Rattle.mat_exchange.proofs.fringe.offer_one.Goals as goal

pub returns-in_ok-insert-clause-offered : goal.returns-in_ok-insert-clause-offered
returns-in_ok-insert-clause-offered c =
    offered_one_new c.args.members.now c.insert.new.self c.args.gains.now.items c.args.z c.args.gain _ c.requires.below c.in_ok-insert.ensures.ok
    refl (sym c.contains.ensures ∙ c.if-not-contains.true)

pub returns-in_ok-insert-clause-tops : goal.returns-in_ok-insert-clause-tops
returns-in_ok-insert-clause-tops c =
    tops_offered _ _ _ _ c.args.z c.args.gain (returns-in_ok-insert-clause-offered c) c.requires.below
    (length-set c.args.gains.now.items c.args.z c.args.gain) (rw c.as_slice.ensures.value at c.raise_top.ensures) c.requires.tops

pub returns-then-lt-clause-offered : goal.returns-then-lt-clause-offered
returns-then-lt-clause-offered c = grind (arith, common_steps)

pub returns-then-lt-clause-tops : goal.returns-then-lt-clause-tops
returns-then-lt-clause-tops c =
    tops_offered _ _ _ _ c.args.z c.args.gain (returns-then-lt-clause-offered c) c.requires.below
    (length-set c.args.gains.now.items c.args.z c.args.gain) (rw c.as_slice-then-lt.ensures.value at c.raise_top-then-lt.ensures) c.requires.tops
