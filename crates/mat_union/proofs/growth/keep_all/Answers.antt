use Rattle.mat_union.proofs.Common.{◌+◌, arith, subst, sym}
use Rattle.mat_union.proofs.SoundMatroids.{kept_end, kept_more, kept_none, part_passes, parts_count, sound_at, AreKeptSo}
use Rattle.mat_union.proofs.growth.keep_all.Goals as goal

pub loop-i-init : goal.loop-i-init
loop-i-init g c = kept_none g.M.Asked.keeps c.args.matroids.now c.args.parts.now _ c.new-kept.ensures.items

pub get-requires : goal.get-requires
get-requires g c = (let e = parts_count g.M.Asked.indep c.args.matroids.now c.args.parts.now c.requires.parts in omega (arith, c.loop-i-test.true))

pub keep_of-requires-clause-sound : goal.keep_of-requires-clause-sound
keep_of-requires-clause-sound g c = (sound_at g.M.Asked.ground_size g.M.Asked.sound c.args._n c.args.matroids.now c.requires.sound c.loop-i.i c.index-matroids-i.result c.loop-i-test.true c.index-matroids-i.is).0

pub keep_of-requires-clause-base : goal.keep_of-requires-clause-base
keep_of-requires-clause-base g c = part_passes g.M.Asked.indep c.args.matroids.now c.args.parts.now c.requires.parts c.loop-i.i c.index-matroids-i.result c.get.result.now c.loop-i-test.true c.index-matroids-i.is c.get.ensures.item

pub loop-i-preserved : goal.loop-i-preserved
loop-i-preserved g c = subst (AreKeptSo g.M.Asked.keeps c.args.matroids.now c.args.parts.now (c.loop-i.i + 1)) (sym c.in_ok-push.ensures.items)
    (kept_more g.M.Asked.keeps c.args.matroids.now c.args.parts.now c.loop-i.i c.loop-i.kept.items c.index-matroids-i.result c.get.result.now c.in_ok-keep_of.field-0 c.loop-i.invariant c.loop-i-test.true
    c.index-matroids-i.is c.get.ensures.item c.in_ok-keep_of.ensures)

pub returns : goal.returns
returns g c = kept_end g.M.Asked.keeps c.args.matroids.now c.args.parts.now c.loop-i.i c.loop-i.kept.items (omega (arith, c.loop-i-test.false, c.loop-i.auto.i-end)) c.loop-i.invariant
