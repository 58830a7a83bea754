-- The parts so far are those after all moves, with what is kept of them; a part that no move enters or leaves stays as it is.
use Rattle.mat_union.proofs.Common.{◌+◌, ◌<◌, ◌∙◌, arith, length, refl, subst, sym, AreKept, all_moved, part_at}
use Rattle.mat_union.proofs.MadeMoves.{anew_at, anew_end, anew_none, made_end, made_none, made_part, made_same, made_set, part_stays, AreMadeSo}
use Rattle.mat_union.proofs.MovedSets.{all_moved_at}
use Rattle.mat_union.proofs.SoundMatroids.{anew_same, anew_set, part_passes, parts_count, sound_at, AreKeptAnew}
use Rattle.mat_union.proofs.growth.make_moves.Goals as goal
use Rattle.mat_union.proofs.growth.make_moves.Goals.{then-is_entered_or_left+in_ok-next+in_ok-one, else-is_entered_or_left}

pub loop-i-init : goal.loop-i-init
loop-i-init g c =
    let parts = c.args.parts.now in
    let moves = c.args.moves.now in
    record { parts = made_none parts moves; kept = anew_none g.M.Asked.keeps c.args.matroids.now parts (all_moved parts moves) c.args.kept.now.items c.requires.kept }

pub get-part-requires : goal.get-part-requires
get-part-requires g c =
    let e = parts_count g.M.Asked.indep c.args.matroids.now c.args.parts.now c.requires.before in
    let n = c.loop-i.invariant.parts.long in
    omega (arith, c.loop-i-test.true)

pub keep_next_of-requires-clause-sound : goal.keep_next_of-requires-clause-sound
keep_next_of-requires-clause-sound g c = (sound_at g.M.Asked.ground_size g.M.Asked.sound c.args._n c.args.matroids.now c.requires.sound c.loop-i.i c.index-matroids-i.result c.loop-i-test.true c.index-matroids-i.is).0

pub keep_next_of-requires-clause-base : goal.keep_next_of-requires-clause-base
keep_next_of-requires-clause-base g c =
    part_passes g.M.Asked.indep c.args.matroids.now c.args.parts.now c.requires.before c.loop-i.i c.index-matroids-i.result c.get-part.result.now c.loop-i-test.true c.index-matroids-i.is
    (c.get-part.ensures.item ∙ c.loop-i.invariant.parts.left c.loop-i.i (omega arith))

pub keep_next_of-requires-clause-kept : goal.keep_next_of-requires-clause-kept
keep_next_of-requires-clause-kept g c =
    anew_at g.M.Asked.keeps c.args.matroids.now c.args.parts.now (all_moved c.args.parts.now c.args.moves.now) c.loop-i.i c.loop-i.kept.items c.index-matroids-i.result c.get-part.result.now c.index.result.now
    c.loop-i.invariant.kept c.loop-i-test.true c.index-matroids-i.is (c.get-part.ensures.item ∙ c.loop-i.invariant.parts.left c.loop-i.i (omega arith)) c.index.ensures

pub keep_next_of-requires-clause-next : goal.keep_next_of-requires-clause-next
keep_next_of-requires-clause-next g c =
    let ms = c.args.matroids.now in
    let parts = c.args.parts.now in
    let moves = c.args.moves.now in
    let i = c.loop-i.i in
    let l : i < length parts = (let e = parts_count g.M.Asked.indep ms parts c.requires.before in omega (arith, c.loop-i-test.true)) in
    part_passes g.M.Asked.indep ms (all_moved parts moves) c.requires.after i c.index-matroids-i.result c.in_ok-next.next c.loop-i-test.true c.index-matroids-i.is
    (made_part parts moves i c.loop-i.parts c.get-part.result.now c.in_ok-next.next c.loop-i.invariant.parts c.get-part.ensures.item c.in_ok-next.ensures.set ∙ sym (all_moved_at parts moves i l))

pub replace-requires : goal.replace-requires
replace-requires g c =
    let e = parts_count g.M.Asked.indep c.args.matroids.now c.args.parts.now c.requires.before in
    let n = c.loop-i.invariant.parts.long in
    omega (arith, c.loop-i-test.true)

pub loop-i-preserved : goal.loop-i-preserved
loop-i-preserved g c =
    let keeps = g.M.Asked.keeps in
    let ms = c.args.matroids.now in
    let parts = c.args.parts.now in
    let moves = c.args.moves.now in
    let new = all_moved parts moves in
    let i = c.loop-i.i in
    let now = c.loop-i.parts in
    let so = c.loop-i.invariant.parts in
    let l : i < length parts = (let e = parts_count g.M.Asked.indep ms parts c.requires.before in omega (arith, c.loop-i-test.true)) in
    let at = all_moved_at parts moves i l in
    elim c.if-is_entered_or_left.branch [
      | then-is_entered_or_left+in_ok-next+in_ok-one w ↦
          (let next = made_part parts moves i now c.get-part.result.now w.in_ok-next.next so c.get-part.ensures.item w.in_ok-next.ensures.set in
          record {
            parts = subst (AreMadeSo parts moves (i + 1)) (sym (w.parts-is ∙ w.replace.ensures.items)) (made_set parts moves i now w.in_ok-next.next so l next);
            kept = rw w.kept-is (subst (AreKeptAnew keeps ms parts new (i + 1)) (sym w.put_kept.ensures)
                (anew_set keeps ms parts new i c.loop-i.kept.items w.index-matroids-i.result w.in_ok-next.next w.in_ok-one.one c.loop-i.invariant.kept c.loop-i-test.true w.index-matroids-i.is (next ∙ sym at) w.in_ok-one.ensures));
          })
      | else-is_entered_or_left w ↦
          (let stays = part_stays parts moves i now c.get-part.result.now so c.get-part.ensures.item c.get-part.ensures.rises (sym c.is_entered_or_left.ensures ∙ w.if-is_entered_or_left.false) in
          record {
            parts = subst (AreMadeSo parts moves (i + 1)) (sym w.parts-is) (made_same parts moves i now so stays);
            kept = rw w.kept-is (anew_same keeps ms parts new i c.loop-i.kept.items (part_at new i) (part_at parts i) c.loop-i.invariant.kept refl refl (at ∙ stays));
          })
    ]

pub returns-clause-parts : goal.returns-clause-parts
returns-clause-parts g c =
    let e = parts_count g.M.Asked.indep c.args.matroids.now c.args.parts.now c.requires.before in
    made_end c.args.parts.now c.args.moves.now c.loop-i.i c.loop-i.parts (omega (arith, c.loop-i-test.false)) c.loop-i.invariant.parts

pub returns-clause-kept : goal.returns-clause-kept
returns-clause-kept g c =
    let keeps = g.M.Asked.keeps in
    let ms = c.args.matroids.now in
    let parts = c.args.parts.now in
    let moves = c.args.moves.now in
    let e = parts_count g.M.Asked.indep ms parts c.requires.before in
    subst (λ now. AreKept keeps ms now c.loop-i.kept.items) (sym (made_end parts moves c.loop-i.i c.loop-i.parts (omega (arith, c.loop-i-test.false)) c.loop-i.invariant.parts))
    (anew_end keeps ms parts (all_moved parts moves) c.loop-i.i c.loop-i.kept.items (omega (arith, c.loop-i-test.false)) c.loop-i.invariant.kept)
