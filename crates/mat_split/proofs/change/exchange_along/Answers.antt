use Rattle.mat_split.proofs.Common.{◌∙◌, ap, sym, take, get_or, refl, with_one, without_one}
use Rattle.mat_split.proofs.Changing.{exchanged_along_none, exchanged_along_member, exchanged_along_other, IsRising-exchanged_along}
use Rattle.mat_split.proofs.change.exchange_along.Goals as goal
use Rattle.mat_split.proofs.change.exchange_along.Goals.{then-contains, else-contains+in_ok-add}

pub loop-x-init : goal.loop-x-init
loop-x-init c = c.in_ok-exchanged.ensures.equal ∙ exchanged_along_none c.args.set.now c.in_ok-exchanged.ensures.rises

pub loop-x-preserved : goal.loop-x-preserved
loop-x-preserved c =
    let I = c.args.set.now in
    let path = c.args.path.now in
    let i = c.loop-x.x-index in
    let x = get_or path i 0 in
    let r = c.in_ok-exchanged.ensures.rises in
    elim c.if-contains.branch [
      | then-contains w ↦ w.exchanged-is ∙ w.take_out.ensures.items ∙ ap (λ s. without_one s x) c.loop-x.invariant
          ∙ exchanged_along_member I path i x r c.loop-x-test.true refl (sym c.contains.ensures.found ∙ w.if-contains.true)
      | else-contains+in_ok-add w ↦ w.exchanged-is ∙ w.in_ok-add.ensures.ok.1 ∙ ap (λ s. with_one s x) c.loop-x.invariant
          ∙ exchanged_along_other I path i x r c.loop-x-test.true refl (sym c.contains.ensures.found ∙ w.if-contains.false)
    ]

pub returns-clause-rises : goal.returns-clause-rises
returns-clause-rises c =
    rw c.loop-x.invariant (IsRising-exchanged_along c.args.set.now (take c.loop-x.x-index c.args.path.now) c.in_ok-exchanged.ensures.rises)
