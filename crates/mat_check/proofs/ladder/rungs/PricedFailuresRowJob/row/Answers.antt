-- The number of the row is that of a rung of the ladder, so the rung is in range, and what is told at its place is whether it is beaten.
use Rattle.mat_check.proofs.Common.{◌<◌, length, slice_index_or, sym, subst, slice_get-get_or, IfOk-weaker, is_independent, tree_of, priced_rung_clauses}
use Rattle.mat_check.proofs.RungFailures.{rung_inside, failure_stands}
use Rattle.mat_check.proofs.ladder.rungs.PricedFailuresRowJob.row.Goals as goal

pub bounds-self-inside-k : goal.bounds-self-inside-k
bounds-self-inside-k c =
    let job = c.self.inside in
    let pair = job.pair.now in
    let clauses = priced_rung_clauses (length pair.weights.now) (is_independent (tree_of pair.first.now))
    (is_independent (tree_of pair.second.now)) pair.weights.now in
    let inside = rung_inside clauses job.rungs.now c.args.self.now c.self.view_is c.args.k c.requires.below in
    inside

pub priced_rung_failure-requires-clause-ranged : goal.priced_rung_failure-requires-clause-ranged
priced_rung_failure-requires-clause-ranged c =
    let job = c.self.inside in
    let pair = job.pair.now in
    let clauses = priced_rung_clauses (length pair.weights.now) (is_independent (tree_of pair.first.now))
    (is_independent (tree_of pair.second.now)) pair.weights.now in
    let inside = rung_inside clauses job.rungs.now c.args.self.now c.self.view_is c.args.k c.requires.below in
    c.self.invariant.5.each c.args.k _ (slice_get-get_or job.rungs.now c.args.k c.index-self-k.result inside)

pub bounds-self-inside-k-2 : goal.bounds-self-inside-k-2
bounds-self-inside-k-2 c =
    let job = c.self.inside in
    let pair = job.pair.now in
    let clauses = priced_rung_clauses (length pair.weights.now) (is_independent (tree_of pair.first.now))
    (is_independent (tree_of pair.second.now)) pair.weights.now in
    let inside = rung_inside clauses job.rungs.now c.args.self.now c.self.view_is c.args.k c.requires.below in
    subst (λ m. c.args.k < m) (sym c.self.invariant.6) inside

pub bounds-self-inside-k-3 : goal.bounds-self-inside-k-3
bounds-self-inside-k-3 c =
    let job = c.self.inside in
    let pair = job.pair.now in
    let clauses = priced_rung_clauses (length pair.weights.now) (is_independent (tree_of pair.first.now))
    (is_independent (tree_of pair.second.now)) pair.weights.now in
    let inside = rung_inside clauses job.rungs.now c.args.self.now c.self.view_is c.args.k c.requires.below in
    subst (λ m. c.args.k < m) (sym c.self.invariant.7) inside

pub priced_rung_failure-requires-clause-first_told : goal.priced_rung_failure-requires-clause-first_told
priced_rung_failure-requires-clause-first_told c =
    let job = c.self.inside in
    let pair = job.pair.now in
    let clauses = priced_rung_clauses (length pair.weights.now) (is_independent (tree_of pair.first.now))
    (is_independent (tree_of pair.second.now)) pair.weights.now in
    let inside = rung_inside clauses job.rungs.now c.args.self.now c.self.view_is c.args.k c.requires.below in
    c.self.invariant.8 c.args.k _ (slice_get-get_or job.rungs.now c.args.k c.index-self-k.result inside)
    (subst (λ m. c.args.k < m) (sym c.self.invariant.6) inside)

pub priced_rung_failure-requires-clause-second_told : goal.priced_rung_failure-requires-clause-second_told
priced_rung_failure-requires-clause-second_told c =
    let job = c.self.inside in
    let pair = job.pair.now in
    let clauses = priced_rung_clauses (length pair.weights.now) (is_independent (tree_of pair.first.now))
    (is_independent (tree_of pair.second.now)) pair.weights.now in
    let inside = rung_inside clauses job.rungs.now c.args.self.now c.self.view_is c.args.k c.requires.below in
    c.self.invariant.9 c.args.k _ (slice_get-get_or job.rungs.now c.args.k c.index-self-k.result inside)
    (subst (λ m. c.args.k < m) (sym c.self.invariant.7) inside)

pub returns : goal.returns
returns c =
    let job = c.self.inside in
    let pair = job.pair.now in
    let clauses = priced_rung_clauses (length pair.weights.now) (is_independent (tree_of pair.first.now))
    (is_independent (tree_of pair.second.now)) pair.weights.now in
    let inside = rung_inside clauses job.rungs.now c.args.self.now c.self.view_is c.args.k c.requires.below in
    IfOk-weaker c.priced_rung_failure.result _ _ (λ found h. failure_stands clauses job.rungs.now c.args.self.now c.self.view_is c.args.k
    c.requires.below (slice_index_or job.rungs.now c.args.k c.index-self-k.result)
    (slice_get-get_or job.rungs.now c.args.k c.index-self-k.result inside) found h) c.priced_rung_failure.ensures
