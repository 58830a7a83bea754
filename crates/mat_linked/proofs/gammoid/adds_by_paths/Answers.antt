use Rattle.mat_linked.proofs.Common.{◌∙◌, get_or, is_member, AllBelow-at}
use Rattle.mat_linked.proofs.LinkedRows.{adds_told}
use Rattle.mat_linked.proofs.gammoid.adds_by_paths.Goals as goal

pub returns : goal.returns
returns c = λ vertices arcs sources base given ok out k.
    let targets = c.args.targets.now in
    let x = c.args.x in
    let v = get_or targets x 0 in
    c.contains.ensures
    ∙ adds_told vertices arcs sources targets given base ok x c.requires out (is_member v c.args.kept.now.next_ends)
    (k.next_ends v (AllBelow-at vertices targets x given.targets_inside c.requires))
