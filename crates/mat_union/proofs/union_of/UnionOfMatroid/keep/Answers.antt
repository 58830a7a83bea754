use Rattle.mat_union.proofs.Common.{map, subst, sym, both_ways, AllBelow, union_set, tests_are_matroids}
use Rattle.mat_union.proofs.PartsOfSets.{found_none, found_parts}
use Rattle.mat_union.proofs.SoundMatroids.{sound_slice}
use Rattle.mat_union.proofs.union_of.UnionOfMatroid.keep.Goals as goal

pub parts_of-requires-clause-sound : goal.parts_of-requires-clause-sound
parts_of-requires-clause-sound g c =
    sound_slice g.M.Matroid.ground_size g.M.Matroid.sound c.as_slice.ensures.value c.size-n.ensures c.requires.sound

pub parts_of-requires-clause-below : goal.parts_of-requires-clause-below
parts_of-requires-clause-below g c =
    let indep = g.M.Matroid.indep in
    let items = c.args.self.now.parts.items in
    let laws = tests_are_matroids g.M.Matroid.ground_size g.M.Matroid.sound indep g.met.M.Matroid.laws items c.requires.sound in
    subst (λ k. AllBelow k c.args.base.now) (sym c.size-n.ensures) (union_set (map indep items) laws c.args.base.now c.requires.base).below

pub returns : goal.returns
returns g c = (
  c.requires.sound,
  found_parts g.M.Matroid.indep g.M.Matroid.keeps c.as_slice.ensures.value c.size-n.ensures c.args.base.now c.in_ok-kept.field-0 _ _ c.in_ok-kept.ensures c.in-Some.kept c.in-Some.is,
)

pub unreachable-requires : goal.unreachable-requires
unreachable-requires g c = both_ways _ (found_none g.M.Matroid.indep g.M.Matroid.keeps c.as_slice.ensures.value c.size-n.ensures c.args.base.now c.in_ok-kept.field-0 _ _ c.in_ok-kept.ensures c.in-None.is) c.requires.base
