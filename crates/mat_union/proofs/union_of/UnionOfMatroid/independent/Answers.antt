use Rattle.mat_union.proofs.Common.{◌∙◌, subst, sym, AllBelow, tests_are_matroids}
use Rattle.mat_union.proofs.PartsOfSets.{found_tells}
use Rattle.mat_union.proofs.SoundMatroids.{sound_slice}
use Rattle.mat_union.proofs.union_of.UnionOfMatroid.independent.Goals as goal

pub parts_of-requires-clause-sound : goal.parts_of-requires-clause-sound
parts_of-requires-clause-sound g c =
    sound_slice g.M.Matroid.ground_size g.M.Matroid.sound c.as_slice.ensures.value c.size-n.ensures c.requires.sound

pub parts_of-requires-clause-below : goal.parts_of-requires-clause-below
parts_of-requires-clause-below g c = subst (λ k. AllBelow k c.args.set.now) (sym c.size-n.ensures) c.requires.below

pub returns : goal.returns
returns g c =
    let indep = g.M.Matroid.indep in
    let items = c.args.self.now.parts.items in
    let laws = tests_are_matroids g.M.Matroid.ground_size g.M.Matroid.sound indep g.met.M.Matroid.laws items c.requires.sound in
    c.is_some.ensures ∙ found_tells indep g.M.Matroid.keeps c.as_slice.ensures.value c.size-n.ensures c.args.set.now c.in_ok-found.found _ _ c.in_ok-found.ensures laws
