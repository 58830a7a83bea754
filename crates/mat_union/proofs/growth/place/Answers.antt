use Rattle.mat_union.proofs.Common.{map, refl, subst, sym, ArePlaced, IsPlaceSearch}
use Rattle.mat_union.proofs.PlacedElements.{search_places}
use Rattle.mat_union.proofs.growth.place.Goals as goal

pub make_moves-requires-clause-after : goal.make_moves-requires-clause-after
make_moves-requires-clause-after g c =
    let tests = map g.M.Asked.indep c.args.matroids.now in
    (search_places c.args.n tests c.args.parts.now c.args.among.now c.args.x c.in-Placed.is c.in_ok-moves.ensures c.deref.result.now c.deref.ensures.value).are

pub returns-in_ok-make_moves-in-Placed-clause-placed : goal.returns-in_ok-make_moves-in-Placed-clause-placed
returns-in_ok-make_moves-in-Placed-clause-placed g c =
    let tests = map g.M.Asked.indep c.args.matroids.now in
    subst (ArePlaced tests c.args.parts.now c.args.among.now c.args.x) (sym c.in_ok-make_moves-in-Placed.ensures.parts)
    (search_places c.args.n tests c.args.parts.now c.args.among.now c.args.x c.in-Placed.is c.in_ok-moves.ensures c.deref.result.now c.deref.ensures.value)

pub returns-in-Stuck-clause-placed : goal.returns-in-Stuck-clause-placed
returns-in-Stuck-clause-placed g c =
    let tests = map g.M.Asked.indep c.args.matroids.now in
    (refl, subst (IsPlaceSearch c.args.n tests c.args.parts.now c.args.among.now c.args.x) c.in-Stuck.is c.in_ok-moves.ensures)
