use Rattle.std.proofs.Common.{subst}
use Rattle.mat_laws.specs.Matroids.{IsMatroid}
use Rattle.mat_teams.proofs.ladders.best_ladder.Goals as goal

pub returns-clause-heaviest : goal.returns-clause-heaviest
returns-clause-heaviest g c =
    let laws = subst (λ n. IsMatroid n (g.B.Matroid.indep c.args.second.now)) c.requires.elements c.lawful-2.ensures in
    let ladder = c.in_ok-ladder.ladder in
    c.ladder_is_best.ensures.heaviest _ _ _ c.lawful.ensures laws c.args.weights.now ladder.rungs.items ladder.cut c.in_ok-ladder.ensures

pub returns-clause-largest : goal.returns-clause-largest
returns-clause-largest g c =
    let laws = subst (λ n. IsMatroid n (g.B.Matroid.indep c.args.second.now)) c.requires.elements c.lawful-2.ensures in
    let ladder = c.in_ok-ladder.ladder in
    c.ladder_is_best.ensures.largest _ _ _ c.lawful.ensures laws c.args.weights.now ladder.rungs.items ladder.cut c.in_ok-ladder.ensures
