use Rattle.mat_split.proofs.Common.{length}
use Rattle.mat_laws.proofs.BestLadders.{rung_is_heaviest, fewer_than_rungs, split_weight}
use Rattle.mat_split.proofs.laws.ladder_is_best.Goals as goal

pub returns : goal.returns
returns c = record {
  heaviest = λ n p q lp lq w rungs cut l k rung at. rung_is_heaviest lp lq w k rung.set rung.first rung.second (l.each k rung at).right;
  largest = λ n p q lp lq w rungs cut l. fewer_than_rungs lp lq (length rungs) cut l.some l.last;
  splits = λ n p q w rungs cut l k rung at. split_weight n p q w k rung.set rung.first rung.second (l.each k rung at).right;
}
