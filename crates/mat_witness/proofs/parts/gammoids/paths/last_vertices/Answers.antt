use Rattle.mat_witness.proofs.Common.{◌≡◌, ℕ, ◌<◌, ◌-◌, List, length, get_or, subst, sym, ap, ◌∙◌}
use Rattle.mat_witness.proofs.SourcePaths.{last_of-pushed}
use Rattle.mat_witness.proofs.parts.gammoids.paths.last_vertices.Goals as goal

pub loop-path-preserved : goal.loop-path-preserved
loop-path-preserved c =
    let i = c.loop-path.path-index in
    let path : List ℕ = c.path-item.result in
    let found : ℕ = c.get.result in
    let some : 0 < length path = subst (λ p. 0 < length p) (sym c.path-item.is) (c.requires i path c.loop-path-test.true) in
    let last : found ≡ get_or path (length path - 1) 0 = c.get.ensures ∙ ap (λ n. get_or path (n - 1) 0) c.len.ensures in
    last_of-pushed c.args.lists.now i found path c.loop-path.ends.items c.push.new.self.items c.loop-path-test.true c.path-item.is some last
    c.loop-path.invariant c.in_ok-push.ensures.items
