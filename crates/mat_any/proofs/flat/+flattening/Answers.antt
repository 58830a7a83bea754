use Rattle.mat_any.proofs.Common.{◌≡◌, ◌++◌, [], ◌∷◌, ap, sym, ◌∙◌, rules, arith, the_lemmas, take_all, trees_in, on_ok_weaker, tree_seen, trees_seen, flat_of, flat_trees, tree_of}
use Rattle.mat_any.proofs.FlatTrees.{flat_more, map_append, nothing_more}
use Rattle.mat_any.proofs.JoinedMatroids.{node}
use Rattle.mat_any.proofs.flat.+flattening.Goals as goal

pub push_flat-returns-in-Union : goal.push_flat-returns-in-Union
push_flat-returns-in-Union t c =
    let old = trees_seen c.args.all.now.items in
    let here = node c.args.matroid.now c.in-Union.parts c.deref.result.now c.in-Union.is c.deref.ensures.value in
    on_ok_weaker c.push_each.result (λ told. told ∙ ap (λ t. old ++ flat_of t) (sym here)) c.push_each.ensures

pub push_flat-returns-in_ok-push-in_default : goal.push_flat-returns-in_ok-push-in_default
push_flat-returns-in_ok-push-in_default t c =
    let old = c.args.all.now.items in
    let m = c.args.matroid in
    let one : flat_of (tree_of m.now) ≡ tree_of m.now ∷ [] = search (rules, the_lemmas) in
    ap trees_seen c.in_ok-push-in_default.ensures.items ∙ map_append tree_seen old (record { matroid = m } ∷ []) ∙ ap (λ l. trees_seen old ++ l) (sym one)

pub push_each-loop-matroid-init : goal.push_each-loop-matroid-init
push_each-loop-matroid-init t c = nothing_more (trees_seen c.args.all.now.items)

pub push_each-loop-matroid-preserved : goal.push_each-loop-matroid-preserved
push_each-loop-matroid-preserved t c =
    flat_more (trees_seen c.args.all.now.items) (trees_seen c.loop-matroid.all.items) (trees_seen c.push_flat.new.all.items) c.args.matroids.now c.loop-matroid.matroid-index
    c.matroid-item.result c.loop-matroid-test.true c.matroid-item.is c.loop-matroid.invariant c.in_ok-push_flat.ensures

pub push_each-returns : goal.push_each-returns
push_each-returns t c =
    c.loop-matroid.invariant ∙ ap (λ l. trees_seen c.args.all.now.items ++ flat_trees (trees_in l)) (take_all c.loop-matroid.matroid-index c.args.matroids.now (omega (arith, c.loop-matroid-test.false)))
