use Rattle.mat_cuts.proofs.Common.{◌<◌, ◌∙◌, ◌++◌, ◌∷◌, [], length, inl, inr, sym, ap, arith, get_or_default_zero, ends_of, those_below-none, those_below-skip, comes}
use Rattle.mat_cuts.proofs.Loops.{comes-no, comes-yes, those_below-push}
use Rattle.mat_cuts.proofs.lowering.arcs_coming.Goals as goal
use Rattle.mat_cuts.proofs.lowering.arcs_coming.Goals.{then-index-path+then-index-path-2+in_ok-push, else-index-path, else-index-path-via-then-index-path+else-index-path-2, else-index-path-via-else-index-path}

pub loop-a-init : goal.loop-a-init
loop-a-init c = c.new-coming.ensures.items ∙ those_below-none (comes (ends_of c.args.arcs.now) c.args.path.now.place.items c.args.path.now.last)

pub loop-a-preserved : goal.loop-a-preserved
loop-a-preserved c =
    let arcs = c.args.arcs.now in
    let place = c.args.path.now.place.items in
    let last = c.args.path.now.last in
    let a = c.loop-a.a in
    let test = comes (ends_of arcs) place last in
    let inside : a < length arcs = (let t = c.loop-a-test.true in omega arith) in
    let head = c.index.ensures ∙ get_or_default_zero place _ c.index.result.now (c.requires.second a inside) in
    elim c.if-index-path.branch [
      | then-index-path+then-index-path-2+in_ok-push w ↦ rw w.coming-is
          (w.in_ok-push.ensures.items ∙ ap (λ s. s ++ a ∷ []) c.loop-a.invariant
          ∙ sym (those_below-push a test (comes-yes arcs place last a (sym head ∙ w.if-index-path.true)
          (λ e. w.if-index-path-2.true (w.index-then-index-path.ensures ∙ get_or_default_zero place _ w.index-then-index-path.result.now (c.requires.first a inside) ∙ e)))))
      | else-index-path w ↦ rw w.coming-is
          (c.loop-a.invariant ∙ those_below-skip a test (comes-no arcs place last a (elim w.else-index-path.branch [
            | else-index-path-via-then-index-path+else-index-path-2 w2 ↦
                inr (sym (w2.index-then-index-path.ensures ∙ get_or_default_zero place _ w2.index-then-index-path.result.now (c.requires.first a inside)) ∙ w2.if-index-path-2.false)
            | else-index-path-via-else-index-path w2 ↦ inl (λ e. w2.if-index-path.false (head ∙ e))
          ])))
    ]
