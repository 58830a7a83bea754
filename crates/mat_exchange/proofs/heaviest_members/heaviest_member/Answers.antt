use Rattle.mat_exchange.proofs.Common.{◌*◌, ap, sym, subst, arith, ◌∙◌, false_from_ne_true, is_member, weight_at, IsHeaviestOrNone, in_bucket}
use Rattle.mat_exchange.proofs.HeaviestMembers.{bucket_parts, heaviest_below, heaviest_to_all, heaviest_to_below, heaviest_to_bucket}
use Rattle.mat_exchange.proofs.heaviest_members.heaviest_member.Goals as goal

pub heaviest_in_bucket-top-requires-clause-starts : goal.heaviest_in_bucket-top-requires-clause-starts
heaviest_in_bucket-top-requires-clause-starts c = omega arith

pub heaviest_in_bucket-top-requires-clause-below : goal.heaviest_in_bucket-top-requires-clause-below
heaviest_in_bucket-top-requires-clause-below c = λ x m. c.requires.below x (ap (is_member x) (sym c.as_words-words.ensures) ∙ m)

pub heavier_of_both-heaviest-requires-clause-heaviest : goal.heavier_of_both-heaviest-requires-clause-heaviest
heavier_of_both-heaviest-requires-clause-heaviest c = heaviest_to_below _ _ _ _ _ c.requires.below c.loop-at.invariant

pub heavier_of_both-heaviest-requires-clause-other : goal.heavier_of_both-heaviest-requires-clause-other
heavier_of_both-heaviest-requires-clause-other c =
    heaviest_below _ _ _ _ (λ x k. c.requires.below x (ap (is_member x) (sym c.as_words-words.ensures) ∙ (bucket_parts _ _ x k).0))
    c.heaviest_in_bucket-top.ensures

pub loop-at-preserved : goal.loop-at-preserved
loop-at-preserved c =
    let w = weight_at c.args.weights.now in
    let at = c.loop-at.at in
    let top = subst (λ set. IsHeaviestOrNone (in_bucket set at) w c.heaviest_in_bucket-top.result) c.as_words-words.ensures
    c.heaviest_in_bucket-top.ensures in
    rw c.heavier_of_both-heaviest.ensures (heaviest_to_bucket c.args.members.now w at c.loop-at.heaviest c.heaviest_in_bucket-top.result
    c.loop-at.invariant top)

pub returns : goal.returns
returns c =
    heaviest_to_all (λ x. is_member x c.args.members.now) (weight_at c.args.weights.now) (c.loop-at.at * 64) c.loop-at.heaviest
    (λ x le. false_from_ne_true (is_member x c.args.members.now) (λ m. omega (arith, c.requires.below x m))) c.loop-at.invariant
