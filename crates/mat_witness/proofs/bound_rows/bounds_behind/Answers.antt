use Rattle.mat_witness.proofs.Common.{◌∙◌, ap, length, length-drop, take_rest}
use Rattle.mat_witness.proofs.bound_rows.bounds_behind.Goals as goal

pub returns-clause-rest : goal.returns-clause-rest
returns-clause-rest c = take_rest c.args.bounds.now c.args.count

pub returns-clause-length : goal.returns-clause-length
returns-clause-length c = ap length (take_rest c.args.bounds.now c.args.count) ∙ length-drop c.args.count c.args.bounds.now
