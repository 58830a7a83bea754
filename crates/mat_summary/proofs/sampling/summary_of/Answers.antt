use Rattle.std.proofs.lemmas.Result.{IfOk-weaker}
use Rattle.mat_summary.proofs.Common.{certificate_of, IsSummary}
use Rattle.mat_summary.proofs.SampleForms.{sample_has_form}
use Rattle.mat_summary.proofs.sampling.summary_of.Goals as goal

pub checked_answer-requires-clause-form : goal.checked_answer-requires-clause-form
checked_answer-requires-clause-form g c =
    rw (c.query_of_kind.ensures.query, c.requires.sample) (sample_has_form c.args.kind c.args.size c.args.seed)

pub returns : goal.returns
returns g c =
    IfOk-weaker _ _ (λ v. IsSummary c.args.kind c.args.size c.args.seed v.items) (λ v whole. record {
      certificate = certificate_of c.in_ok-answer.answer;
      of_query = rw c.query_of_kind.ensures.query at c.in_ok-answer.ensures.of_query;
      solution = rw c.requires.sample at c.in_ok-answer.ensures.solution;
      whole = whole;
    }) c.summary_text-text.ensures
