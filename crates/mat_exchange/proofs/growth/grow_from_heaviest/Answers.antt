-- The source from which the weights have grown tells the greatest weight of the first matroid; without a source nothing changes.
use Rattle.mat_exchange.proofs.Common.{◌<◌, ◌∙◌, length, sym, subst, weight_at, exchanges_in}
use Rattle.mat_exchange.proofs.GrownSplits.{grown_at_sink, grown_without_source, source_at}
use Rattle.mat_exchange.proofs.HeaviestAddable.{addable_below, heaviest_weight}
use Rattle.mat_exchange.proofs.growth.grow_from_heaviest.Goals as goal

pub returns-in_default-clause-grown : goal.returns-in_default-clause-grown
returns-in_default-clause-grown c =
    grown_without_source (length c.args.w1.now) (exchanges_in c.args.first.now) (exchanges_in c.args.second.now) (weight_at c.args.w1.now)
    (weight_at c.args.w2.now) c.addable_elements.result.now c.addable_elements.ensures.elements c.in_default.ensures
    c.requires.first_gains c.requires.second_gains

pub returns-in_default-clause-heaviest : goal.returns-in_default-clause-heaviest
returns-in_default-clause-heaviest c = record {
  of_first = λ x. sym (c.addable_elements.ensures.elements x) ∙ c.in_default.ensures x;
  of_second = c.heaviest_addable.ensures;
}

pub returns-then-is_heaviest-clause-grown : goal.returns-then-is_heaviest-clause-grown
returns-then-is_heaviest-clause-grown c =
    let sink = rw c.requires.lengths at (sym c.is_heaviest.ensures ∙ c.if-is_heaviest.true) in
    let source = source_at (exchanges_in c.args.first.now) c.addable_elements.result.now c.addable_elements.ensures.elements c.in-Some.ensures in
    let below = subst (λ n. c.in-Some.root < n) c.requires.first_table.count (addable_below c.args.first.now c.in-Some.root source.passes) in
    grown_at_sink (length c.args.w1.now) (exchanges_in c.args.first.now) (exchanges_in c.args.second.now) (weight_at c.args.w1.now)
    (weight_at c.args.w2.now) c.in-Some.root below source sink
    c.requires.first_gains c.requires.second_gains

pub returns-then-is_heaviest-clause-heaviest : goal.returns-then-is_heaviest-clause-heaviest
returns-then-is_heaviest-clause-heaviest c = record {
  of_first = heaviest_weight (source_at (exchanges_in c.args.first.now) c.addable_elements.result.now c.addable_elements.ensures.elements c.in-Some.ensures);
  of_second = c.heaviest_addable-top.ensures;
}

pub returns-clause-heaviest : goal.returns-clause-heaviest
returns-clause-heaviest c = record { of_first = heaviest_weight c.in_ok-grow_from.ensures.root; of_second = c.in_ok-grow_from.ensures.top }
