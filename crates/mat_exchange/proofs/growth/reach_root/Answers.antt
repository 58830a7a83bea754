-- Both offers, of the addable elements and by the arcs of the root, make the fringe of the root alone.
use Rattle.mat_exchange.proofs.Common.{◌∙◌, ap, with_one}
use Rattle.mat_exchange.proofs.GrowthSteps.{fringe_of_root, others_start, others_start_below}
use Rattle.mat_exchange.proofs.growth.reach_root.Goals as goal

pub offer-requires-clause-others : goal.offer-requires-clause-others
offer-requires-clause-others c = others_start_below _ _ _ _ c.remove.ensures c.in_ok-others.ensures

pub offer_exchanges-requires-clause-others : goal.offer_exchanges-requires-clause-others
offer_exchanges-requires-clause-others c = others_start_below _ _ _ _ c.remove.ensures c.in_ok-others.ensures

pub returns-clause-others : goal.returns-clause-others
returns-clause-others c = others_start _ _ _ _ c.remove.ensures c.in_ok-others.ensures

pub returns-clause-fringe : goal.returns-clause-fringe
returns-clause-fringe c =
    fringe_of_root c.addable_elements.result.now c.args.w1.now c.args.w2.now c.in_ok-fringe.fringe.gains c.offer.new.fringe.gains _
    c.requires.first_table c.requires.second_table
    (c.in_ok-insert.ensures.ok ∙ ap (λ s. with_one s c.args.root) c.in_ok-reached.ensures) c.addable_elements.ensures.elements
    (rw (c.in_ok-fringe.ensures.members, c.as_words.ensures) at c.in_ok-offer.ensures.offered) c.in_ok-offer_exchanges.ensures.offered
