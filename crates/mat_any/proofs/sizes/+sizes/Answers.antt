use Rattle.mat_any.proofs.Common.{sym, ◌∙◌, rules, sound_at, elements_in, size_in, IsSoundOne, the_lemmas}
use Rattle.mat_any.proofs.JoinedMatroids.{joined_at, size_at}
use Rattle.mat_any.proofs.sizes.+sizes.Goals as goal

pub size_of-common_size_of-requires : goal.size_of-common_size_of-requires
size_of-common_size_of-requires t c = (
  search (rules, the_lemmas),
  joined_at c.args.matroid.now c.in-Union.parts c.deref-in-Union.result.now c.in-Union.is c.deref-in-Union.ensures.value c.requires,
)

pub size_of-returns-in-Union : goal.size_of-returns-in-Union
size_of-returns-in-Union t c =
    c.common_size_of.ensures ∙ sym (size_at c.args.matroid.now c.in-Union.parts c.deref-in-Union.result.now c.in-Union.is c.deref-in-Union.ensures.value)

pub common_size_of-size_of-requires : goal.common_size_of-size_of-requires
common_size_of-size_of-requires t c =
    let ms = c.args.matroids.now in
    let some = c.requires.some in
    (search (rules, the_lemmas), (sound_at elements_in IsSoundOne (size_in ms) ms c.requires.each 0 c.index-matroids-0.result some c.index-matroids-0.is).0)

pub common_size_of-returns : goal.common_size_of-returns
common_size_of-returns t c =
    let ms = c.args.matroids.now in
    c.size_of.ensures ∙ (sound_at elements_in IsSoundOne (size_in ms) ms c.requires.each 0 c.index-matroids-0.result c.requires.some c.index-matroids-0.is).1
