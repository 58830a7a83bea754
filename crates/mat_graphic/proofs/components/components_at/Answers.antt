use Rattle.mat_graphic.proofs.Common.{◌∙◌, ℕ, List, [], ◌∷◌, ◌++◌, ap, get_or, length, map, sym, map_more, take_all, class_of}
use Rattle.mat_graphic.proofs.components.components_at.Goals as goal

pub loop-root-init : goal.loop-root-init
loop-root-init c = c.new-sets.ensures.items

pub loop-root-preserved : goal.loop-root-preserved
loop-root-preserved c =
    let component = class_of (length c.args.least.now) (λ v. get_or c.args.least.now v 0) in
    let roots = c.args.roots.now in
    let i = c.loop-root.root-index in
    c.in_ok-push.ensures.items ∙ ap (λ (xs : List ℕ). c.loop-root.sets.items ++ xs ∷ []) c.in_ok-members_with.ensures
    ∙ ap (λ xss. xss ++ component (get_or roots i 0) ∷ []) c.loop-root.invariant ∙ sym (map_more component roots i 0 c.loop-root-test.true)

pub returns : goal.returns
returns c = c.loop-root.invariant
    ∙ ap (map (class_of (length c.args.least.now) (λ v. get_or c.args.least.now v 0))) (take_all c.loop-root.root-index c.args.roots.now c.loop-root-test.false)
