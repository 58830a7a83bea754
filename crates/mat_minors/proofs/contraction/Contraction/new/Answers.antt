use Rattle.mat_minors.proofs.Common.{subst, IsRising, maximal_from_none}
use Rattle.mat_minors.proofs.contraction.Contraction.new.Goals as goal

pub returns-clause-sound : goal.returns-clause-sound
returns-clause-sound g c = (
  c.requires.sound,
  record {
    set = record { rising = subst IsRising c.away.view_is c.away.invariant; below = c.requires.below };
    maximal = maximal_from_none _ _ _ _ c.new.ensures.members c.in_ok-chosen.ensures.maximal;
  },
)
