use Rattle.mat_union.proofs.Common.{◌≡◌, ◌+◌, ◌-◌, ◌∙◌, ◌∷◌, ◌++◌, List, ℕ, [], replicate, ap, arith, replicate_more, part_at}
use Rattle.mat_union.proofs.EmptyParts.{part_at-later}
use Rattle.mat_union.proofs.empty.first_parts.Goals as goal

pub loop-preserved : goal.loop-preserved
loop-preserved c =
    let one = c.loop.invariant.some in
    let count : (c.loop.counter - 1) + 1 ≡ (c.loop.counter + 1) - 1 = omega arith in
    let empty : List ℕ = [] in
    record {
      some = omega arith;
      items = c.in_ok-push-2.ensures.items ∙ ap (λ s. c.loop.parts.items ++ s ∷ []) c.new.ensures.members ∙ ap (λ l. l ++ empty ∷ []) c.loop.invariant.items
          ∙ ap (λ l. c.args.first ∷ l) (replicate_more (c.loop.counter - 1) empty ∙ ap (λ k. replicate k empty) count);
    }

pub returns-clause-first : goal.returns-clause-first
returns-clause-first c = ap (λ l. part_at l 0) (c.new-2.ensures.items ∙ c.loop.invariant.items)

pub returns-clause-others : goal.returns-clause-others
returns-clause-others c = λ i h. ap (λ l. part_at l i) (c.new-2.ensures.items ∙ c.loop.invariant.items) ∙ part_at-later c.args.first (c.loop.counter - 1) i h
