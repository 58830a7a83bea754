use Rattle.mat_sets.proofs.Common.{arith, ◌∙◌, refl, take_more}
use Rattle.mat_sets.proofs.Members.{is_member-get_or}
use Rattle.mat_sets.proofs.Rounds.{IsRound-more, IsRound-rest}
use Rattle.mat_sets.proofs.level_search.round.Goals as goal

pub take_arcs-requires-clause-below : goal.take_arcs-requires-clause-below
take_arcs-requires-clause-below g c = c.requires.frontier _ (is_member-get_or c.args.frontier.now c.loop-u.u-index _ (omega arith) refl)

pub take_arcs-requires-clause-unreached : goal.take_arcs-requires-clause-unreached
take_arcs-requires-clause-unreached g c = λ v m. c.requires.unreached v (IsRound-rest _ _ _ _ _ _ _ v c.loop-u.invariant m)

pub take_arcs-requires-clause-long : goal.take_arcs-requires-clause-long
take_arcs-requires-clause-long g c = c.loop-u.invariant.long ∙ c.requires.long

pub loop-u-preserved : goal.loop-u-preserved
loop-u-preserved g c = rw (take_more c.args.frontier.now c.loop-u.u-index 0 (omega arith))
    (IsRound-more _ _ _ _ _ _ _ _ _ _ _ c.loop-u.invariant c.in_ok-take_arcs.ensures)
