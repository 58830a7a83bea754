use Rattle.mat_union.proofs.Common.{arith, subst, IsMatroid}
use Rattle.mat_union.proofs.SoundMatroids.{laws_end, laws_more, sound_at}
use Rattle.mat_union.proofs.growth.all_lawful.Goals as goal

pub obeys-requires : goal.obeys-requires
obeys-requires g c = (sound_at g.M.Asked.ground_size g.M.Asked.sound c.args._n c.args.matroids.now c.requires.sound c.loop-i.i c.index-matroids-i.result c.loop-i-test.true c.index-matroids-i.is).0

pub loop-i-preserved : goal.loop-i-preserved
loop-i-preserved g c =
    let at = sound_at g.M.Asked.ground_size g.M.Asked.sound c.args._n c.args.matroids.now c.requires.sound c.loop-i.i c.index-matroids-i.result c.loop-i-test.true c.index-matroids-i.is in
    laws_more g.M.Asked.indep c.args.matroids.now c.args._n c.loop-i.i c.index-matroids-i.result c.loop-i-test.true c.index-matroids-i.is c.loop-i.invariant
    (subst (λ k. IsMatroid k (g.M.Asked.indep c.index-matroids-i.result)) at.1 c.obeys.ensures)

pub returns : goal.returns
returns g c = laws_end g.M.Asked.indep c.args.matroids.now c.args._n c.loop-i.i (omega (arith, c.loop-i-test.false)) c.loop-i.invariant
