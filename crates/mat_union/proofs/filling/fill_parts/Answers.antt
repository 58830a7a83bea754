use Rattle.mat_union.proofs.Common.{◌≡◌, ◌∙◌, map, subst, sym, family_union, IsSubset, IsFilled, AreFresh, common_size}
use Rattle.mat_union.proofs.FillingParts.{filled, left_out_fresh}
use Rattle.mat_union.proofs.SoundMatroids.{sound_at}
use Rattle.mat_union.proofs.filling.fill_parts.Goals as goal

pub grow_by-requires-clause-fresh : goal.grow_by-requires-clause-fresh
grow_by-requires-clause-fresh g c κs within =
    subst (λ e. AreFresh c.size-n.result e c.in_ok-growth.growth.parts c.in_ok-growth.growth.spanned) (sym c.as_slice.ensures.items)
    (left_out_fresh _ c.args.parts c.in_ok-elements.elements c.in_ok-elements.ensures _ _ c.in_ok-growth.ensures.done)

pub returns : goal.returns
returns g c =
    let size = g.M.Matroid.ground_size in
    let sound = g.M.Matroid.sound in
    let matroids = c.args.matroids.now in
    let n_is : c.size-n.result ≡ common_size size matroids = c.size-n.ensures ∙ (sound_at size sound (common_size size matroids) matroids c.requires.sound.each 0 c.index-matroids-0.result c.requires.sound.some c.index-matroids-0.is).1 in
    let told = c.in_ok-grow_by.ensures in
    subst (λ k. IsFilled k (map g.M.Matroid.indep matroids) c.args.parts c.grow_by.new.growth.parts c.grow_by.new.growth.spanned) n_is
    (filled _ c.args.parts c.as_slice.result.now (c.as_slice.ensures.items ∙ c.in_ok-elements.ensures) c.all_lawful.ensures told.growing
    (told.done _ c.in_ok-growth.ensures.done) (subst (λ p. IsSubset (family_union p) (family_union c.grow_by.new.growth.parts)) c.in_ok-growth.ensures.same told.holds))
