use Rattle.mat_laws.proofs.Common.{refl}
use Rattle.mat_laws.proofs.BestLadders.{cut_bounds}
use Rattle.mat_laws.proofs.laws.cut_bounds_common_sets.Goals as goal

pub returns : goal.returns
returns c = record {
  ranks = λ n p q lp lq A X s in_p in_q. cut_bounds lp lq _ A (record { set = s; ranks = refl }) X in_p in_q;
  cut = λ n p q lp lq k cut X is_cut in_p in_q. cut_bounds lp lq k cut is_cut X in_p in_q;
}
