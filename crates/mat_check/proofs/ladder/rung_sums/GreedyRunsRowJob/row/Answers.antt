use Rattle.mat_check.proofs.Common.{◌<◌, ◌∙◌, [], length, slice_index_or, sym, ap, subst, get_or-map, length-map, slice_get-get_or, IfOk-weaker, weight_at, element_count, is_independent, tree_of, AreHeaviestWeights, IsRangedPart, halves_of, half_at, AreSumsUnder}
use Rattle.mat_check.proofs.RangedHalves.{half_at-read}
use Rattle.mat_check.proofs.ladder.rung_sums.GreedyRunsRowJob.row.Goals as goal

pub sums_under-requires-clause-ranged : goal.sums_under-requires-clause-ranged
sums_under-requires-clause-ranged c =
    let job = c.self.inside in
    let halves = halves_of job.side job.rungs.now in
    let k = slice_index_or job.listed.now c.args.j 0 in
    let has : c.args.j < length job.listed.now
    = subst (λ m. c.args.j < m) (sym (ap (λ v. length v.1) c.self.view_is) ∙ length-map job.listed.now (half_at halves)) c.requires.below in
    let inside : k < length job.rungs.now = c.self.invariant.2 c.args.j has in
    let same = c.half.ensures ∙ sym (half_at-read job.side job.rungs.now k _ (slice_get-get_or job.rungs.now k c.index-self-k.result inside)) in
    subst (IsRangedPart (element_count (tree_of job.matroid.now))) (sym same) (c.self.invariant.3 k inside)

pub returns : goal.returns
returns c =
    let job = c.self.inside in
    let halves = halves_of job.side job.rungs.now in
    let k = slice_index_or job.listed.now c.args.j 0 in
    let n = element_count (tree_of job.matroid.now) in
    let p = is_independent (tree_of job.matroid.now) in
    let has : c.args.j < length job.listed.now
    = subst (λ m. c.args.j < m) (sym (ap (λ v. length v.1) c.self.view_is) ∙ length-map job.listed.now (half_at halves)) c.requires.below in
    let inside : k < length job.rungs.now = c.self.invariant.2 c.args.j has in
    let same = c.half.ensures ∙ sym (half_at-read job.side job.rungs.now k _ (slice_get-get_or job.rungs.now k c.index-self-k.result inside))
    ∙ sym (get_or-map (half_at halves) job.listed.now c.args.j 0 [] has) in
    IfOk-weaker c.sums_under.result _ _ (λ sums h. subst (λ v. AreSumsUnder v c.args.j sums) c.self.view_is
    (subst (λ w. AreHeaviestWeights n p (weight_at w) sums) same h)) c.sums_under.ensures
