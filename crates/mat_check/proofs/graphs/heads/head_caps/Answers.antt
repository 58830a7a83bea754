use Rattle.mat_check.proofs.Common.{◌≡◌, replicate, rules}
use Rattle.mat_check.proofs.HeadCaps.{caps_by-root}
use Rattle.mat_check.proofs.graphs.heads.head_caps.Goals as goal

pub returns : goal.returns
returns c =
    let made : c.in_ok-caps.caps.items ≡ replicate c.args.vertices 1 = search rules in
    caps_by-root c.args.vertices c.args.root c.in_ok-caps.caps.items c.requires made
