use Rattle.mat_flow.proofs.Common.{◌∙◌, subst, sym, below_member, AreTrails}
use Rattle.mat_flow.proofs.DisjointPaths.{AreDisjointPaths-trails}
use Rattle.mat_flow.proofs.Separators.{IsSeparator-frontier, before_reached}
use Rattle.mat_flow.proofs.linking.linking_of.Goals as goal

pub frontier-requires-clause-closed : goal.frontier-requires-clause-closed
frontier-requires-clause-closed c =
    let residual = c.args.residual.now in
    before_reached residual.graph.now.vertices residual.graph.now.arcs residual.sources.now residual.targets.now residual.before.now
    c.args.reached.now c.requires.reached c.requires.table.below

pub returns : goal.returns
returns c =
    let residual = c.args.residual.now in
    let vertices = residual.graph.now.vertices in
    let arcs = residual.graph.now.arcs in
    let sources = residual.sources.now in
    let targets = residual.targets.now in
    let before = residual.before.now in
    let reached = c.args.reached.now in
    let after = c.in_ok-after.after.items in
    let paths = c.in_ok-paths.paths.items in
    let frontier = c.in_ok-separator.ensures.frontier in
    let trails : AreTrails before after reached paths =
    subst (λ a. AreTrails before a reached paths) c.deref.ensures.value
    (subst (λ vs. AreTrails before c.deref.result.now vs paths) c.as_slice.ensures.items c.in_ok-paths.ensures) in
    record {
      disjoint = AreDisjointPaths-trails vertices arcs sources targets before after c.requires.table c.in_ok-after.ensures reached paths
          (λ v m. below_member c.requires.reached.set m) trails;
      separates = IsSeparator-frontier vertices arcs sources targets before reached c.in_ok-separator.separator c.vertices.ensures.graph.second
          c.requires.reached c.requires.missed frontier c.requires.sources c.in_ok-separator.ensures.rises;
      as_many = trails.count ∙ sym frontier.size;
    }
