use Rattle.mat_packing.proofs.Partitions.{few_trees}
use Rattle.mat_packing.proofs.laws.partition_has_few_trees.Goals as goal

pub returns : goal.returns
returns c = λ vertices count k ends classes inside r. few_trees ends vertices count inside k classes r
