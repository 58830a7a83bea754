use Rattle.mat_check.proofs.Common.{length, slice_index_or, slice_get-get_or, IfOk-weaker, is_independent, tree_of, plain_rung_clauses}
use Rattle.mat_check.proofs.RungFailures.{rung_inside, failure_stands}
use Rattle.mat_check.proofs.ladder.rungs.PlainFailuresRowJob.row.Goals as goal

pub bounds-self-inside-k : goal.bounds-self-inside-k
bounds-self-inside-k c =
    let job = c.self.inside in
    rung_inside (plain_rung_clauses (length job.weights.now) (is_independent (tree_of job.matroid.now)) job.weights.now) job.rungs.now c.args.self.now
    c.self.view_is c.args.k c.requires.below

pub plain_rung_failure-requires-clause-ranged : goal.plain_rung_failure-requires-clause-ranged
plain_rung_failure-requires-clause-ranged c κs =
    let job = c.self.inside in
    let inside = rung_inside (plain_rung_clauses (length job.weights.now) (is_independent (tree_of job.matroid.now)) job.weights.now) job.rungs.now
    c.args.self.now c.self.view_is c.args.k c.requires.below in
    c.self.invariant.4.each c.args.k _ (slice_get-get_or job.rungs.now c.args.k c.index-self-k.result inside)

pub returns : goal.returns
returns c =
    let job = c.self.inside in
    let clauses = plain_rung_clauses (length job.weights.now) (is_independent (tree_of job.matroid.now)) job.weights.now in
    let inside = rung_inside clauses job.rungs.now c.args.self.now c.self.view_is c.args.k c.requires.below in
    IfOk-weaker c.plain_rung_failure.result _ _ (λ found h. failure_stands clauses job.rungs.now c.args.self.now c.self.view_is c.args.k
    c.requires.below (slice_index_or job.rungs.now c.args.k c.index-self-k.result)
    (slice_get-get_or job.rungs.now c.args.k c.index-self-k.result inside) found h) c.plain_rung_failure.ensures
