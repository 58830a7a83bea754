use Rattle.mat_laws.proofs.Common.{[], ◌∙◌, subst, sym, ap, arith, AreDistinct-rising, grown_along, IsRank}
use Rattle.mat_laws.proofs.Independent.{size_bound}
use Rattle.mat_laws.proofs.Maximal.{IsRank-maximal}
use Rattle.mat_laws.proofs.RankLaws.{rank-maximal}
use Rattle.mat_laws.proofs.GreedyRunSets.{run_maximal_of}
use Rattle.mat_laws.proofs.bases.rank_of.Goals as goal

pub run-requires-clause-below : goal.run-requires-clause-below
run-requires-clause-below g c = rw c.as_slice.ensures.items c.requires.below

pub run-requires-clause-distinct : goal.run-requires-clause-distinct
run-requires-clause-distinct g c = rw c.as_slice.ensures.items (AreDistinct-rising c.args.within.now c.rises.ensures)

pub prove-unreachable-requires : goal.prove-unreachable-requires
prove-unreachable-requires g c =
    let told = c.in_ok-base.ensures ∙ ap (grown_along (g.M.Matroid.indep c.args.m.now) []) c.as_slice.ensures.items in
    let most = size_bound c.lawful.ensures c.in_ok-base.base (run_maximal_of c.lawful.ensures c.args.within.now _ told).passes in
    omega arith

pub returns-clause-largest : goal.returns-clause-largest
returns-clause-largest g c =
    let told = c.in_ok-base.ensures ∙ ap (grown_along (g.M.Matroid.indep c.args.m.now) []) c.as_slice.ensures.items in
    let maximal = run_maximal_of c.lawful.ensures c.args.within.now _ told in
    subst (IsRank _ c.args.within.now) (sym c.len-rank.ensures.count) (IsRank-maximal c.lawful.ensures c.args.within.now c.in_ok-base.base maximal)

pub returns-clause-rank : goal.returns-clause-rank
returns-clause-rank g c =
    let told = c.in_ok-base.ensures ∙ ap (grown_along (g.M.Matroid.indep c.args.m.now) []) c.as_slice.ensures.items in
    let maximal = run_maximal_of c.lawful.ensures c.args.within.now _ told in
    c.len-rank.ensures.count ∙ sym (rank-maximal c.lawful.ensures c.args.within.now c.in_ok-base.base c.rises.ensures maximal)
