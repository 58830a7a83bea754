use Rattle.mat_cert.proofs.Common.{◌∷◌, [], List, ap, ◌∙◌, slice_eq-Decides, Weight, text_of, weights_line}
use Rattle.mat_sets.proofs.WeightOrder.{same_gives, same_from}
use Rattle.mat_cert.proofs.write.rungs.renewed_line.Goals as goal

pub returns-then-eq-clause-weights : goal.returns-then-eq-clause-weights
returns-then-eq-clause-weights c =
    (slice_eq-Decides (λ a b. (same_gives a b, same_from a b)) c.args.before.weights.now c.args.weights.now c.eq.result c.eq.ensures).0 c.if-eq.true

pub returns-then-eq-clause-text : goal.returns-then-eq-clause-text
returns-then-eq-clause-text c =
    let same = (slice_eq-Decides (λ a b. (same_gives a b, same_from a b)) c.args.before.weights.now c.args.weights.now c.eq.result c.eq.ensures).0
    c.if-eq.true in
    c.requires ∙ ap (λ (weights : List Weight). text_of (weights_line c.args.keyword.now weights ∷ [])) same
