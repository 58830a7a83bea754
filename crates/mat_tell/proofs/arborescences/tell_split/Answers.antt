use Rattle.std.proofs.Common.{◌∙◌}
use Rattle.mat_reasons.proofs.Negated.{negated_summable}
use Rattle.mat_tell.proofs.arborescences.tell_split.Goals as goal

pub tell_shares-requires-clause-first : goal.tell_shares-requires-clause-first
tell_shares-requires-clause-first c =
    negated_summable c.args.cheapest.now.first.now c.deref.result.now c.args.cheapest.now.arcs.now
    (c.deref.ensures.value ∙ c.in_ok-first.ensures) c.requires.first

pub tell_shares-requires-clause-second : goal.tell_shares-requires-clause-second
tell_shares-requires-clause-second c =
    negated_summable c.args.cheapest.now.second.now c.deref-2.result.now c.args.cheapest.now.arcs.now
    (c.deref-2.ensures.value ∙ c.in_ok-second.ensures) c.requires.second
