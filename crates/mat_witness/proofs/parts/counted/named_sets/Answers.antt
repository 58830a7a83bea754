use Rattle.mat_witness.proofs.Common.{◌+◌, ℕ, None, get_or, take, sym, ◌∙◌, subst, AreNamed}
use Rattle.mat_flow.proofs.LinkTables.{none_from}
use Rattle.mat_witness.proofs.NamedSets.{AreNamed-more, AreNamed-some, listed_below}
use Rattle.mat_witness.proofs.parts.counted.named_sets.Goals as goal
use Rattle.mat_witness.proofs.parts.counted.named_sets.Goals.{in-Some+in_ok-add, in_default}

pub bounds : goal.bounds
bounds c = listed_below c.as_slice-x-items.ensures.items c.requires c.loop-x-test.true

pub loop-x-preserved : goal.loop-x-preserved
loop-x-preserved c =
    let set = c.args.set.now in
    let i = c.loop-x.x-index in
    let named = λ (x : ℕ). get_or c.args.named.now x None in
    let items = c.as_slice-x-items.ensures.items in
    let inside = rw items at c.loop-x-test.true in
    elim c.match-named-x.branch [
      | in-Some+in_ok-add w ↦
          subst (AreNamed named (take (i + 1) set)) (sym (w.chosen-is ∙ w.in_ok-add.ensures.ok.1))
          (AreNamed-some named set c.loop-x.chosen i w.in-Some.place inside (rw items at w.in-Some.is) c.loop-x.invariant)
      | in_default w ↦
          subst (AreNamed named (take (i + 1) set)) (sym w.chosen-is)
          (AreNamed-more named set c.loop-x.chosen i inside (none_from (named (get_or set i 0)) (rw items at w.in_default.not-Some)) c.loop-x.invariant)
    ]
