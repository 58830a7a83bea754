-- Each question tells one row of exchanges, so fewer are left; the search ends at an element that a part can take, or with all that it reaches.
use Rattle.mat_union.proofs.Common.{◌<◌, length, map, arith, subst, sym, exchanges_with, IsReaching}
use Rattle.mat_union.proofs.AskedRows.{asked_below, row_told}
use Rattle.mat_union.proofs.SoundMatroids.{parts_count, sound_at}
use Rattle.mat_union.proofs.growth.search_from.Goals as goal

pub loop-asked-init : goal.loop-asked-init
loop-asked-init g c =
    let tests = map g.M.Asked.indep c.args.matroids.now in
    subst (λ m. IsReaching c.args.n m (exchanges_with tests c.args.parts.now) c.args.among.now c.args.x c.in_ok-search.search)
    (sym (parts_count g.M.Asked.indep c.args.matroids.now c.args.parts.now c.requires.parts)) (c.in_ok-search.ensures (exchanges_with tests c.args.parts.now))

pub get-requires : goal.get-requires
get-requires g c = subst (λ q. q < length c.args.parts.now) (sym c.in-Some.ensures.3) c.loop-asked.invariant.here

pub row_at-requires-clause-below : goal.row_at-requires-clause-below
row_at-requires-clause-below g c =
    let e = parts_count g.M.Asked.indep c.args.matroids.now c.args.parts.now c.requires.parts in
    let l : c.in-Some.asked.part < length c.args.matroids.now = subst (λ q. q < length c.args.matroids.now) (sym c.in-Some.ensures.3) (let h = c.loop-asked.invariant.here in omega arith) in
    let m = (sound_at g.M.Asked.ground_size g.M.Asked.sound c.args.n c.args.matroids.now c.requires.sound c.in-Some.asked.part c.index-matroids-i.result l c.index-matroids-i.is).1 in
    subst (λ k. c.in-Some.asked.element < k) (sym m) (subst (λ x. x < c.args.n) (sym c.in-Some.ensures.2) (asked_below c.loop-asked.invariant c.in-Some.ensures.1))

pub tell-requires-clause-open : goal.tell-requires-clause-open
tell-requires-clause-open g c = record { more = c.in-Some.ensures.1 }

pub loop-asked-preserved : goal.loop-asked-preserved
loop-asked-preserved g c =
    (c.in_ok-search-2.ensures _ _ _ _ _ c.loop-asked.invariant c.in-Some.ensures.0
    (row_told g.M.Asked.indep c.args.matroids.now c.args.parts.now c.requires.parts c.loop-asked.search c.index-matroids-i.result c.in_ok-row.row c.loop-asked.invariant.here
    c.in-Some.ensures.2 c.in-Some.ensures.3 c.index-matroids-i.is c.get.ensures.item c.in_ok-row.ensures)).0

pub loop-asked-smaller : goal.loop-asked-smaller
loop-asked-smaller g c =
    (c.in_ok-search-2.ensures _ _ _ _ _ c.loop-asked.invariant c.in-Some.ensures.0
    (row_told g.M.Asked.indep c.args.matroids.now c.args.parts.now c.requires.parts c.loop-asked.search c.index-matroids-i.result c.in_ok-row.row c.loop-asked.invariant.here
    c.in-Some.ensures.2 c.in-Some.ensures.3 c.index-matroids-i.is c.get.ensures.item c.in_ok-row.ensures)).1

pub returns-clause-reaching : goal.returns-clause-reaching
returns-clause-reaching g c = c.loop-asked.invariant

pub returns-clause-end : goal.returns-clause-end
returns-clause-end g c = c.in_default.ensures
