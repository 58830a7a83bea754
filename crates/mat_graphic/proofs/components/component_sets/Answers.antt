use Rattle.mat_graphic.proofs.Common.{◌∙◌, ap, get_or, length, map, class_of}
use Rattle.mat_graphic.proofs.components.component_sets.Goals as goal

pub returns : goal.returns
returns c = c.in_ok-sets.ensures
    ∙ ap (map (class_of (length c.args.least.now) (λ v. get_or c.args.least.now v 0))) (c.as_slice.ensures.items ∙ c.in_ok-roots.ensures)
