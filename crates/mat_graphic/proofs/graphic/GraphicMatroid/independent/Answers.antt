use Rattle.mat_graphic.proofs.Common.{length, ap, ◌∙◌, ends_of, is_set-true, is_forest}
use Rattle.mat_graphic.proofs.graphic.GraphicMatroid.independent.Goals as goal

pub returns : goal.returns
returns c =
    let set = is_set-true (length c.args.self.now.edges) c.args.set.now c.are_forest.ensures.rises c.requires.below in
    rw set (c.are_forest.ensures.answer ∙ ap (λ edges. is_forest (ends_of edges) c.args.set.now) c.as_slice.ensures)
