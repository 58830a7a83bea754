use Rattle.mat_union.proofs.Common.{◌∙◌, ap, part_at}
use Rattle.mat_union.proofs.EmptyParts.{part_at-empty}
use Rattle.mat_union.proofs.empty.empty_parts.Goals as goal

pub returns-clause-empty : goal.returns-clause-empty
returns-clause-empty c = λ i. ap (λ l. part_at l i) (c.new-2.ensures.items ∙ c.loop.invariant) ∙ part_at-empty c.loop.counter i
