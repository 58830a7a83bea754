use Rattle.mat_verify.proofs.Common.{IfOk-weaker, IsShowing, certificate_of, instance_of}
use Rattle.mat_witness.specs.Views.{witness_parts}
use Rattle.mat_verify.proofs.RungAnswers.{right_rung, written_shows}
use Rattle.mat_verify.proofs.making.text_of_witness.Goals as goal

pub make_witness-requires-clause-right : goal.make_witness-requires-clause-right
make_witness-requires-clause-right c =
    right_rung (instance_of c.args.problem.now) (certificate_of c.args.answer.now) c.args.k c.requires.rung c.requires.right

pub returns : goal.returns
returns c =
    let made = c.in_ok-witness in
    IfOk-weaker _ _ (λ v. IsShowing (instance_of c.args.problem.now) (certificate_of c.args.answer.now) c.args.k v.items)
    (λ v whole. written_shows (instance_of c.args.problem.now) (certificate_of c.args.answer.now) c.args.k v.items
    (witness_parts made.witness) c.requires.valid c.requires.ranged c.requires.rung made.ensures.witness made.ensures.shown whole)
    c.write_witness-text.ensures
