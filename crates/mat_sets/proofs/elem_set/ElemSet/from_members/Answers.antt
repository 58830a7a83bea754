use Rattle.mat_sets.proofs.Common.{sym, ap, ◌∙◌, [], get_or, take_all, union, with_one}
use Rattle.mat_sets.proofs.Members.{IsRising-nil, IsRising-union}
use Rattle.mat_sets.proofs.Steps.{union-no_items, union-next_item}
use Rattle.mat_sets.proofs.elem_set.ElemSet.from_members.Goals as goal

pub loop-x-init : goal.loop-x-init
loop-x-init c = c.new-set.ensures.members ∙ sym union-no_items

pub loop-x-preserved : goal.loop-x-preserved
loop-x-preserved c =
    c.in_ok-add.ensures.ok.1 ∙ ap (λ s. with_one s (get_or c.args.items.now c.loop-x.x-index 0)) c.loop-x.invariant
    ∙ sym (union-next_item c.args.items.now c.loop-x.x-index c.loop-x-test.true)

pub returns-clause-members : goal.returns-clause-members
returns-clause-members c = c.loop-x.invariant ∙ ap (λ t. union t []) (take_all c.loop-x.x-index c.args.items.now c.loop-x-test.false)

pub returns-clause-set : goal.returns-clause-set
returns-clause-set c = rw (c.loop-x.invariant) (IsRising-union _ [] IsRising-nil)
