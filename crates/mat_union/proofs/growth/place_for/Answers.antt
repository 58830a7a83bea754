use Rattle.mat_union.proofs.Common.{◌≡◌, ◌<◌, true, length, map, subst, IfSome, exchanges_with}
use Rattle.mat_union.proofs.AskedRows.{reaching_is_ready}
use Rattle.mat_union.proofs.growth.place_for.Goals as goal

pub returns-in-Some : goal.returns-in-Some
returns-in-Some g c =
    let tests = map g.M.Asked.indep c.args.matroids.now in
    let parts = c.args.parts.now in
    c.in_ok-move_into.ensures.placed c.args.n tests parts c.args.among.now c.all_lawful.ensures c.requires.parts c.requires.fresh
    (subst (λ f. IfSome f (λ q. q < length parts)) c.in-Some.is c.in_ok-q.ensures.below)
    (subst (λ f. IfSome f (λ q. (exchanges_with tests parts q).adds c.args.x ≡ true)) c.in-Some.is c.in_ok-q.ensures.takes)

pub found_place-requires-clause-ready : goal.found_place-requires-clause-ready
found_place-requires-clause-ready g c = reaching_is_ready c.in_ok-search.ensures.reaching
