use Rattle.mat_check.proofs.Common.{refl, arith, element_count, tree_of}
use Rattle.mat_check.proofs.RangedHalves.{half_ranged}
use Rattle.mat_check.proofs.ladder.beaten.beaten_rungs.Goals as goal

pub list_halves-requires : goal.list_halves-requires
list_halves-requires g c = let ranged = c.requires.ranged in omega (arith, ranged.few, ranged.no_more)

pub rung_sums-requires-clause-ranged : goal.rung_sums-requires-clause-ranged
rung_sums-requires-clause-ranged g c =
    let n = element_count (tree_of c.args.m.now) in
    half_ranged c.args.side n n c.args.rungs.now c.requires.ranged refl
