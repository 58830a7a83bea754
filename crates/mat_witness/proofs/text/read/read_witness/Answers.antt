use Rattle.mat_cert.specs.Views.{certificate_of}
use Rattle.mat_problem.specs.Views.{instance_of}
use Rattle.mat_witness.proofs.Common.{witness_parts}
use Rattle.mat_witness.proofs.WitnessTexts.{gives_fits, gives_found, gives_only}
use Rattle.mat_witness.proofs.text.read.read_witness.Goals as goal

pub returns-clause-fits : goal.returns-clause-fits
returns-clause-fits c =
    gives_fits witness_parts (instance_of c.args.problem.now) (certificate_of c.args.answer.now) c.args.k c.args.text.now c.witness_of.result
    c.requires.witnessed c.witness_of.ensures

pub returns-clause-found : goal.returns-clause-found
returns-clause-found c =
    gives_found witness_parts (instance_of c.args.problem.now) (certificate_of c.args.answer.now) c.args.k c.args.text.now c.witness_of.result
    c.requires.witnessed c.witness_of.ensures

pub returns-clause-only : goal.returns-clause-only
returns-clause-only c =
    gives_only witness_parts (instance_of c.args.problem.now) (certificate_of c.args.answer.now) c.args.k c.args.text.now c.witness_of.result
    c.requires.valid c.witness_of.ensures
