use Rattle.mat_packing.proofs.Common.{◌≡◌, ◌∙◌, ap, get_or, length, map, subst, ends_of, class_of, is_graphic, roots_of, AreFilledCopies}
use Rattle.mat_graphic.specs.declared.graphic.Graphic.{Graphic}
use Rattle.mat_packing.specs.declared.trees.Trees.TheVariants.{Trees, Partition}
use Rattle.mat_packing.proofs.ComponentClasses.{no_trees_told, partition_told, right_trees}
use Rattle.mat_packing.proofs.trees.pack_trees.Goals as goal

pub returns-then-are_full-clause-right : goal.returns-then-are_full-clause-right
returns-then-are_full-clause-right c =
    let edges = c.args.edges.now in
    let same : c.in_ok-graph.graph.edges ≡ edges = ap (λ (g : Graphic). g.edges) c.in_ok-graph.ensures.value ∙ c.in_ok-copy.ensures in
    let parts = c.in_ok-filled.filled.parts in
    let cut = c.in_ok-filled.filled.cut in
    let f = subst (λ E. AreFilledCopies (length E) (is_graphic (length E) (ends_of E)) c.args.k parts cut) same c.in_ok-filled.ensures in
    (right_trees (ends_of edges) c.args.vertices (length edges) c.args.k parts cut c.requires.some_vertex f (c.are_full.ensures.full c.if-are_full.true), f.long)

pub returns-then-are_full-clause-partition : goal.returns-then-are_full-clause-partition
returns-then-are_full-clause-partition c =
    no_trees_told c.args.vertices c.args.edges.now c.args.k c.requires.graph (Trees c.in_ok-filled.filled.parts) (returns-then-are_full-clause-right c)

pub returns-clause-right : goal.returns-clause-right
returns-clause-right c =
    let edges = c.args.edges.now in
    let same : c.in_ok-graph.graph.edges ≡ edges = ap (λ (g : Graphic). g.edges) c.in_ok-graph.ensures.value ∙ c.in_ok-copy.ensures in
    let size : c.in_ok-graph.graph.vertices ≡ c.args.vertices = ap (λ (g : Graphic). g.vertices) c.in_ok-graph.ensures.value in
    let table = c.in_ok-least.least.items in
    let w = c.are_full.ensures.other c.if-are_full.false in
    let told = c.new-classes.ensures.items ∙ c.in_ok-component_sets.ensures
    ∙ ap (λ L. map (class_of (length L) (λ v. get_or L v 0)) (roots_of (length L) (λ v. get_or L v 0))) c.deref.ensures.value
    ∙ ap (λ n. map (class_of n (λ v. get_or table v 0)) (roots_of n (λ v. get_or table v 0))) (c.in_ok-least.ensures.long ∙ size) in
    partition_told edges c.in_ok-graph.graph.edges c.args.vertices c.in_ok-graph.graph.vertices c.args.k c.in_ok-filled.filled.parts c.in_ok-filled.filled.cut table c.new-classes.result
    c.requires.graph same size c.requires.some_vertex c.in_ok-filled.ensures c.in_ok-least.ensures.least told w.0 w.1 w.2

pub returns-clause-partition : goal.returns-clause-partition
returns-clause-partition c =
    no_trees_told c.args.vertices c.args.edges.now c.args.k c.requires.graph (Partition c.new-classes.result) (returns-clause-right c)
