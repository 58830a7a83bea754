use Rattle.mat_union.proofs.Common.{[], ap, sym, ◌∙◌, get_or_default, is_member}
use Rattle.mat_union.proofs.GraphSteps.{stands_more}
use Rattle.mat_union.proofs.MovesAlong.{one_holder}
use Rattle.mat_union.proofs.move_search.place_of.Goals as goal

pub returns-then-contains : goal.returns-then-contains
returns-then-contains c = λ q apart l h. one_holder c.args.parts.now c.loop-i.i q c.args.v apart
    (ap (is_member c.args.v) (sym (c.index-parts-i.is ∙ get_or_default c.args.parts.now c.loop-i.i c.index-parts-i.result [] c.loop-i-test.true)) ∙ sym c.contains.ensures.found ∙ c.if-contains.true) h

pub loop-i-preserved : goal.loop-i-preserved
loop-i-preserved c = stands_more c.args.parts.now c.loop-i.i c.args.v c.index-parts-i.result
    (c.index-parts-i.is ∙ get_or_default c.args.parts.now c.loop-i.i c.index-parts-i.result [] c.loop-i-test.true)
    (sym c.contains.ensures.found ∙ c.if-contains.false) c.loop-i.invariant
