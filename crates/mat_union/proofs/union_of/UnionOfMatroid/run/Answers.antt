use Rattle.mat_union.proofs.Common.{◌≡◌, [], map, subst, sym, IfOk, AllBelow, grown_along, union_test}
use Rattle.mat_union.proofs.SoundMatroids.{sound_slice}
use Rattle.mat_union.proofs.union_of.UnionOfMatroid.run.Goals as goal

pub run_along-requires-clause-sound : goal.run_along-requires-clause-sound
run_along-requires-clause-sound g c =
    sound_slice g.M.Matroid.ground_size g.M.Matroid.sound c.as_slice.ensures.value c.size-n.ensures c.requires.sound

pub run_along-requires-clause-below : goal.run_along-requires-clause-below
run_along-requires-clause-below g c = subst (λ k. AllBelow k c.args.order.now) (sym c.size-n.ensures) c.requires.below

pub returns : goal.returns
returns g c =
    let items = c.args.self.now.parts.items in
    let indep = g.M.Matroid.indep in
    let r = c.run_along.result in
    subst (λ k. IfOk r (λ s. s ≡ grown_along (union_test k (map indep items)) [] c.args.order.now)) c.size-n.ensures
    (subst (λ m. IfOk r (λ s. s ≡ grown_along (union_test c.size-n.result (map indep m)) [] c.args.order.now)) c.as_slice.ensures.value c.run_along.ensures)
