use Rattle.mat_union.proofs.Common.{◌∙◌, ◌<◌, [], ap, subst, sym, length-map, IfOk-weaker, family_union, AllBelow, grown_along}
use Rattle.mat_union.proofs.SoundMatroids.{sound_at, test_is}
use Rattle.mat_union.proofs.UnionRuns.{first_run_are, first_run_holds}
use Rattle.mat_union.proofs.running.first_growth.Goals as goal

pub run_along-requires-clause-sound : goal.run_along-requires-clause-sound
run_along-requires-clause-sound g c = (sound_at g.M.Asked.ground_size g.M.Asked.sound c.args.n c.args.matroids.now c.requires.sound 0 c.index-matroids-0.result c.requires.some c.index-matroids-0.is).0

pub run_along-requires-clause-below : goal.run_along-requires-clause-below
run_along-requires-clause-below g c =
    let at = sound_at g.M.Asked.ground_size g.M.Asked.sound c.args.n c.args.matroids.now c.requires.sound 0 c.index-matroids-0.result c.requires.some c.index-matroids-0.is in
    subst (λ k. AllBelow k c.args.order.now) (sym at.1) c.requires.below

pub growth_from-requires-clause-parts : goal.growth_from-requires-clause-parts
growth_from-requires-clause-parts g c =
    let count = length-map c.args.matroids.now g.M.Asked.indep in
    let test = test_is g.M.Asked.indep c.args.matroids.now 0 c.index-matroids-0.result c.requires.some c.index-matroids-0.is in
    first_run_are c.all_lawful.ensures (subst (λ k. 0 < k) (sym count) c.requires.some) c.args.order.now c.in_ok-first.first
    (c.in_ok-first.ensures ∙ ap (λ p. grown_along p [] c.args.order.now) (sym test)) c.in_ok-parts.parts (c.in_ok-parts.ensures.long ∙ sym count) c.in_ok-parts.ensures.first c.in_ok-parts.ensures.others

pub returns-clause-first : goal.returns-clause-first
returns-clause-first g c =
    let count = length-map c.args.matroids.now g.M.Asked.indep in
    let test = test_is g.M.Asked.indep c.args.matroids.now 0 c.index-matroids-0.result c.requires.some c.index-matroids-0.is in
    let holds = first_run_holds c.all_lawful.ensures (subst (λ k. 0 < k) (sym count) c.requires.some) c.args.order.now c.in_ok-first.first
    (c.in_ok-first.ensures ∙ ap (λ p. grown_along p [] c.args.order.now) (sym test)) c.in_ok-parts.parts (c.in_ok-parts.ensures.long ∙ sym count) c.in_ok-parts.ensures.first c.in_ok-parts.ensures.others in
    IfOk-weaker c.growth_from.result _ _ (λ g same. ap family_union same ∙ holds) c.growth_from.ensures.same
