-- The arborescence is a common independent set of the graphic matroid and of the partition matroid of the heads; behind the sums each clause says that
-- no independent set of its size is heavier under one half.
use Rattle.mat_check.proofs.Common.{◌≡◌, ◌∙◌, List, ℕ, true, ap, length, map, subst, sym, ends_of, all_below, weight_at, Weight, is_beaten, CappedClasses, test_of, is_graphic, Graphic, is_entering_once, common_from_arborescence, spanning_is_told, cost_clause}
use Rattle.mat_check.proofs.SplitFailures.{first_beats, none_beats, second_beats, sum_fails}
use Rattle.mat_check.proofs.graphs.arborescence.arborescence_split_failure.Goals as goal

-- what is told of a graph is told of one with the same edges, and so of capped classes
told_of_edges : (edges arcs : List (ℕ × ℕ)) (first : List Weight) (tree : List ℕ) → edges ≡ arcs
    → is_beaten (length edges) (is_graphic (length edges) (ends_of edges)) (weight_at first) tree
    ≡ is_beaten (length arcs) (is_graphic (length arcs) (ends_of arcs)) (weight_at first) tree
told_of_edges edges arcs first tree same =
    ap (λ (es : List (ℕ × ℕ)). is_beaten (length es) (is_graphic (length es) (ends_of es)) (weight_at first) tree) same

told_of_classes : (m classes : CappedClasses) (second : List Weight) (tree : List ℕ) → m ≡ classes
    → is_beaten m.count (test_of m) (weight_at second) tree ≡ is_beaten classes.count (test_of classes) (weight_at second) tree
told_of_classes m classes second tree same = ap (λ (p : CappedClasses). is_beaten p.count (test_of p) (weight_at second) tree) same

pub cost_failure-requires-clause-first : goal.cost_failure-requires-clause-first
cost_failure-requires-clause-first c = c.requires.first.size ∙ sym c.requires.lengths

pub cost_failure-requires-clause-second : goal.cost_failure-requires-clause-second
cost_failure-requires-clause-second c = c.requires.second.size ∙ sym c.requires.lengths

pub is_beaten_under-requires-clause-passes : goal.is_beaten_under-requires-clause-passes
is_beaten_under-requires-clause-passes c κs =
    let arcs = c.args.arcs.now in
    let tree = c.args.tree.now in
    let spanning = (spanning_is_told c.args.vertices (length arcs) c.args.root (ends_of arcs) tree c.requires.root c.requires.graph.first
    c.requires.set).0 c.requires.spanning in
    let common = common_from_arborescence c.args.vertices arcs c.args.root c.requires.graph c.requires.root tree spanning in
    subst (λ (es : List (ℕ × ℕ)). is_graphic (length es) (ends_of es) tree ≡ true)
    (sym (ap (λ (m : Graphic). m.edges) c.in_ok-graphic.ensures.value ∙ c.in_ok-copy.ensures)) common.0

pub is_beaten_under-requires-2-clause-passes : goal.is_beaten_under-requires-2-clause-passes
is_beaten_under-requires-2-clause-passes c κs =
    let arcs = c.args.arcs.now in
    let spanning = (spanning_is_told c.args.vertices (length arcs) c.args.root (ends_of arcs) c.args.tree.now c.requires.root
    c.requires.graph.first c.requires.set).0 c.requires.spanning in
    let common = common_from_arborescence c.args.vertices arcs c.args.root c.requires.graph c.requires.root c.args.tree.now spanning in
    subst (λ (m : CappedClasses). test_of m c.args.tree.now ≡ true) (sym c.in_ok-heads.ensures.value) common.1

pub returns-in-Some : goal.returns-in-Some
returns-in-Some c =
    let arcs = c.args.arcs.now in
    sum_fails (map (cost_clause c.args.costs.now c.args.first.now c.args.second.now) (all_below (length arcs))) (length arcs)
    (is_graphic (length arcs) (ends_of arcs)) (is_entering_once (length arcs) c.args.vertices (ends_of arcs) c.args.root) c.args.first.now
    c.args.second.now 0 c.args.tree.now c.in-Some.failure (sym (rw c.requires.lengths at c.cost_failure.ensures) ∙ c.in-Some.is)

pub returns-then-branch : goal.returns-then-branch
returns-then-branch c =
    let arcs = c.args.arcs.now in
    let edges = ap (λ (m : Graphic). m.edges) c.in_ok-graphic.ensures.value ∙ c.in_ok-copy.ensures in
    rw c.at.ensures (first_beats (map (cost_clause c.args.costs.now c.args.first.now c.args.second.now) (all_below (length arcs))) (length arcs)
    (is_graphic (length arcs) (ends_of arcs)) (is_entering_once (length arcs) c.args.vertices (ends_of arcs) c.args.root) c.args.first.now
    c.args.second.now 0 c.args.tree.now (sym (rw c.requires.lengths at c.cost_failure.ensures) ∙ c.in_default.is)
    (sym (c.in_ok-is_beaten_under.ensures ∙ told_of_edges _ _ c.args.first.now c.args.tree.now edges) ∙ c.if-branch.true))

pub returns-then-branch-2 : goal.returns-then-branch-2
returns-then-branch-2 c =
    let arcs = c.args.arcs.now in
    let edges = ap (λ (m : Graphic). m.edges) c.in_ok-graphic.ensures.value ∙ c.in_ok-copy.ensures in
    rw c.at-then-branch-2.ensures (second_beats (map (cost_clause c.args.costs.now c.args.first.now c.args.second.now) (all_below (length arcs)))
    (length arcs) (is_graphic (length arcs) (ends_of arcs)) (is_entering_once (length arcs) c.args.vertices (ends_of arcs) c.args.root)
    c.args.first.now c.args.second.now 0 c.args.tree.now (sym (rw c.requires.lengths at c.cost_failure.ensures) ∙ c.in_default.is)
    (sym (c.in_ok-is_beaten_under.ensures ∙ told_of_edges _ _ c.args.first.now c.args.tree.now edges) ∙ c.if-branch.false)
    (sym (c.in_ok-is_beaten_under-2.ensures ∙ told_of_classes _ _ c.args.second.now c.args.tree.now c.in_ok-heads.ensures.value)
    ∙ c.if-branch-2.true))

pub returns : goal.returns
returns c =
    let arcs = c.args.arcs.now in
    let edges = ap (λ (m : Graphic). m.edges) c.in_ok-graphic.ensures.value ∙ c.in_ok-copy.ensures in
    none_beats (map (cost_clause c.args.costs.now c.args.first.now c.args.second.now) (all_below (length arcs))) (length arcs)
    (is_graphic (length arcs) (ends_of arcs)) (is_entering_once (length arcs) c.args.vertices (ends_of arcs) c.args.root) c.args.first.now
    c.args.second.now 0 c.args.tree.now (sym (rw c.requires.lengths at c.cost_failure.ensures) ∙ c.in_default.is)
    (sym (c.in_ok-is_beaten_under.ensures ∙ told_of_edges _ _ c.args.first.now c.args.tree.now edges) ∙ c.if-branch.false)
    (sym (c.in_ok-is_beaten_under-2.ensures ∙ told_of_classes _ _ c.args.second.now c.args.tree.now c.in_ok-heads.ensures.value)
    ∙ c.if-branch-2.false)
