use Rattle.mat_linked.proofs.Common.{◌&&◌, ◌∙◌, subst, IsNextFrom, is_member}
use Rattle.mat_linked.proofs.Searching.{adds_told}
use Rattle.mat_linked.proofs.kept_matching.KeptMatching.adds.Goals as goal

pub returns : goal.returns
returns c = λ family base fresh t h size inside r passes.
    let leading = c.args.self.now.leading in
    c.is_some.ensures
    ∙ adds_told c.args.rows.now base c.args.self.now.matched.items c.args.x t fresh c.requires family size inside r passes leading h c.next_common.result
    (subst (λ row. IsNextFrom (λ j. is_member j row && is_member j leading) 0 c.next_common.result) c.row.ensures c.next_common.ensures)
