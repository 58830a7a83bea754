use Rattle.mat_witness.proofs.Common.{ℕ, None, get_or, ap, ◌∙◌, with_one, filter-found, filter-passed, IsRising-found, is_unnamed}
use Rattle.mat_witness.proofs.NamedSets.{listed_below, unnamed_where_none}
use Rattle.mat_witness.proofs.parts.counted.unnamed_members.Goals as goal
use Rattle.mat_witness.proofs.parts.counted.unnamed_members.Goals.{then-is_none+in_ok-add, else-is_none}

pub bounds-named-x : goal.bounds-named-x
bounds-named-x c = listed_below c.as_slice-x-items.ensures.items c.requires c.loop-x-test.true

pub loop-x-preserved : goal.loop-x-preserved
loop-x-preserved c =
    let set = c.args.set.now in
    let i = c.loop-x.x-index in
    let test = λ (x : ℕ). is_unnamed (get_or c.args.named.now x None) in
    let items = c.as_slice-x-items.ensures.items in
    let inside = rw items at c.loop-x-test.true in
    let asked = unnamed_where_none (get_or c.args.named.now (get_or set i 0) None) c.is_none.result (rw items at c.is_none.ensures) in
    elim c.if-is_none.branch [
      | then-is_none+in_ok-add w ↦
          rw items at (w.members-is ∙ w.in_ok-add.ensures.ok.1) ∙ ap (λ s. with_one s (get_or set i 0)) c.loop-x.invariant
          ∙ filter-found test set i c.as_slice-x-items.ensures.rises inside (asked ∙ w.if-is_none.true)
      | else-is_none w ↦ w.members-is ∙ c.loop-x.invariant ∙ filter-passed test set i inside (asked ∙ w.if-is_none.false)
    ]

pub returns-clause-rises : goal.returns-clause-rises
returns-clause-rises c =
    IsRising-found (λ x. is_unnamed (get_or c.args.named.now x None)) c.args.set.now c.loop-x.members c.loop-x.x-index
    c.as_slice-x-items.ensures.rises c.loop-x.invariant
