use Rattle.mat_minors.proofs.MinorRows.{joined_passes}
use Rattle.mat_minors.proofs.contraction.ContractionMatroid.keep.Goals as goal

pub keep-requires-clause-base : goal.keep-requires-clause-base
keep-requires-clause-base g c =
    joined_passes (g.met.M.Matroid.laws c.args.self.now.inner c.requires.sound.0) c.requires.sound.1 c.args.base.now c.in_ok-joined.ensures.members c.requires.base
