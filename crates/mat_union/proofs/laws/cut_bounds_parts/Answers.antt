use Rattle.mat_union.proofs.Common.{cut_bounds}
use Rattle.mat_union.proofs.laws.cut_bounds_parts.Goals as goal

pub returns : goal.returns
returns c = λ n tests laws parts are F A. cut_bounds tests parts F A laws are
