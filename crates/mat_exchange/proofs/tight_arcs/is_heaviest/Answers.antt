use Rattle.mat_exchange.proofs.Common.{◌∙◌, ◌&&◌, ap, length, subst, sym, is_same, weight_at, exchanges_in, IsHeaviestWeightOrNone}
use Rattle.mat_exchange.proofs.HeaviestAddable.{is_heaviest_addable-by_weight}
use Rattle.mat_exchange.proofs.tight_arcs.is_heaviest.Goals as goal

pub returns-then-addable : goal.returns-then-addable
returns-then-addable c =
    let exchanges = exchanges_in c.args.table.now in
    let w = weight_at c.args.weights.now in
    let t = c.in-Some.weight in
    let top = subst (IsHeaviestWeightOrNone exchanges.adds w) c.in-Some.is c.requires.top in
    c.weighs.ensures ∙ sym (ap (λ b. b && is_same t (w c.args.x)) (sym c.addable.ensures ∙ c.if-addable.true))
    ∙ sym (is_heaviest_addable-by_weight (length c.args.weights.now) c.args.table.now w t c.args.x c.requires.table top)
